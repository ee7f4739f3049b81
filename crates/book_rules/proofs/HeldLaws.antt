-- Nodes with their states under posts: each stays in its place, and its rises never fall.
use Rattle.std.specs.Prelude.{◌≡◌, ℕ, ◌+◌, ◌≤◌, true, false, Option, None, Some, List, [], ◌∷◌, unwrap_or, ◌++◌, slice_set}
use Rattle.std.specs.List.{AllByRecursion, slice_get}
use Rattle.std.specs.Option.{option_map}
use Rattle.std.proofs.Common.{refl, sym, ◌∙◌, ap, subst, inl, inr, arith, add-one}
use Rattle.std.proofs.lemmas.Option.{same_Some}
use Rattle.std.proofs.lemmas.Bool.{cases_Bool, cond-true, cond-false, false_from_ne_true, false≢true}
use Rattle.call_context.specs.declared.node.Node.{Node}
use Rattle.book_rules.specs.Same.{same_node}
use Rattle.book_rules.specs.SameTests.{same_node-refl, same_node-eq}
use Rattle.chip_analysis.specs.Analysis.{Analysis}
use Rattle.book_rules.specs.Counts.{AreApart}
use Rattle.book_rules.specs.Machine.{Held, held_at, place_of, version_of, risen, raised, all_raised}
use Rattle.book_rules.specs.Stays.{AllStay}
use Rattle.book_rules.specs.Staying.{held_at-here, held_at-there, held_at-later, Stays-risen}

pub place_of-here : {A : Type 0} (h : Held A) (hs : List (Held A)) (node : Node) → same_node node h.node ≡ true
    → place_of (h ∷ hs) node ≡ Some 0
place_of-here h hs node e = cond-true _ _ _ e

pub place_of-there : {A : Type 0} (h : Held A) (hs : List (Held A)) (node : Node) → same_node node h.node ≡ false
    → place_of (h ∷ hs) node ≡ option_map (λ place. place + 1) (place_of hs node)
place_of-there h hs node e = cond-false _ _ _ e

-- what a map of an option comes from
pub option_map-some : {X Y : Type 0} (f : X → Y) (o : Option X) (y : Y) → option_map f o ≡ Some y → (x : X) × (o ≡ Some x) × (f x ≡ y)
option_map-some f None y e = absurd (cc)
option_map-some f (Some x) y e = (x, refl, same_Some (f x) y e)

pub same_node-turned : (a b : Node) → same_node a b ≡ false → same_node b a ≡ false
same_node-turned a b e =
    false_from_ne_true (same_node b a) (λ t. let s : b ≡ a = same_node-eq b a t in
    false≢true (sym e ∙ subst (λ x. same_node a x ≡ true) (sym s) (same_node-refl a)))

pub held_at-node : {A : Type 0} (hs : List (Held A)) (node : Node) (h : Held A) → held_at hs node ≡ Some h → h.node ≡ node
held_at-node [] node h e = absurd (cc)
held_at-node (k ∷ hs) node h e =
    elim (cases_Bool (same_node node k.node)) [
      | inl t ↦ let s : k ≡ h = same_Some k h (sym (held_at-here k hs node t) ∙ e) in
          let n : node ≡ k.node = same_node-eq node k.node t in
          ap (λ x. x.node) (sym s) ∙ sym n
      | inr f ↦ held_at-node hs node h (sym (held_at-there k hs node f) ∙ e)
    ]

-- a place stays the node's
pub place_of-later : {A : Type 0} (hs ls : List (Held A)) (node : Node) (p : ℕ) → AllStay hs ls
    → place_of hs node ≡ Some p → place_of ls node ≡ Some p
place_of-later [] ls node p s e = absurd (cc)
place_of-later (k ∷ hs) [] node p s e = absurd s
place_of-later (k ∷ hs) (l ∷ ls) node p s e =
    elim (cases_Bool (same_node node k.node)) [
      | inl t ↦ let u : same_node node l.node ≡ true = ap (λ x. same_node node x) s.0.node ∙ t in
          place_of-here l ls node u ∙ sym (place_of-here k hs node t) ∙ e
      | inr f ↦ let u : same_node node l.node ≡ false = ap (λ x. same_node node x) s.0.node ∙ f in
          let r = option_map-some (λ place. place + 1) (place_of hs node) p (sym (place_of-there k hs node f) ∙ e) in
          place_of-there l ls node u ∙ ap (λ o. option_map (λ place. place + 1) o) (place_of-later hs ls node r.0 s.1 r.1) ∙ ap (λ x. Some x) r.2
    ]

-- a place is of one node
pub place_of-one : {A : Type 0} (hs : List (Held A)) (n k : Node) (p : ℕ) → place_of hs n ≡ Some p → place_of hs k ≡ Some p → n ≡ k
place_of-one [] n k p e d = absurd (cc)
place_of-one (h ∷ hs) n k p e d =
    elim (cases_Bool (same_node n h.node)) [
      | inl t ↦ let z : 0 ≡ p = same_Some 0 p (sym (place_of-here h hs n t) ∙ e) in
          elim (cases_Bool (same_node k h.node)) [
            | inl u ↦ let a : n ≡ h.node = same_node-eq n h.node t in let b : k ≡ h.node = same_node-eq k h.node u in a ∙ sym b
            | inr g ↦ let r = option_map-some (λ place. place + 1) (place_of hs k) p (sym (place_of-there h hs k g) ∙ d) in
                absurd (omega (arith, r.2))
          ]
      | inr f ↦ let q = option_map-some (λ place. place + 1) (place_of hs n) p (sym (place_of-there h hs n f) ∙ e) in
          elim (cases_Bool (same_node k h.node)) [
            | inl u ↦ let z : 0 ≡ p = same_Some 0 p (sym (place_of-here h hs k u) ∙ d) in absurd (omega (arith, q.2))
            | inr g ↦ let r = option_map-some (λ place. place + 1) (place_of hs k) p (sym (place_of-there h hs k g) ∙ d) in
                let same : r.0 ≡ q.0 = omega (arith, q.2, r.2) in
                place_of-one hs n k q.0 q.1 (r.1 ∙ ap (λ x. Some x) same)
          ]
    ]

-- a node that is there has a place
pub place_of-held : {A : Type 0} (hs : List (Held A)) (node : Node) (h : Held A) → held_at hs node ≡ Some h
    → (p : ℕ) × (place_of hs node ≡ Some p)
place_of-held [] node h e = absurd (cc)
place_of-held (k ∷ hs) node h e =
    elim (cases_Bool (same_node node k.node)) [
      | inl t ↦ (0, place_of-here k hs node t)
      | inr f ↦ let r = place_of-held hs node h (sym (held_at-there k hs node f) ∙ e) in
          (r.0 + 1, place_of-there k hs node f ∙ ap (λ o. option_map (λ place. place + 1) o) r.1)
    ]

-- what has a place is there
pub held_at-placed : {A : Type 0} (hs : List (Held A)) (node : Node) (p : ℕ) → place_of hs node ≡ Some p
    → (h : Held A) × (held_at hs node ≡ Some h)
held_at-placed [] node p e = absurd (cc)
held_at-placed (k ∷ hs) node p e =
    elim (cases_Bool (same_node node k.node)) [
      | inl t ↦ (k, held_at-here k hs node t)
      | inr f ↦ let q = option_map-some (λ place. place + 1) (place_of hs node) p (sym (place_of-there k hs node f) ∙ e) in
          let r = held_at-placed hs node q.0 q.1 in
          (r.0, held_at-there k hs node f ∙ r.1)
    ]

pub version_of-held : {A : Type 0} (hs : List (Held A)) (node : Node) (h : Held A) → held_at hs node ≡ Some h → version_of hs node ≡ h.rises
version_of-held hs node h e = ap (λ o. unwrap_or (option_map (λ x. x.rises) o) 0) e

pub version_of-none : {A : Type 0} (hs : List (Held A)) (node : Node) → held_at hs node ≡ None → version_of hs node ≡ 0
version_of-none hs node e = ap (λ o. unwrap_or (option_map (λ x. x.rises) o) 0) e

-- by whether the node was there
later-by : {A : Type 0} (hs ls : List (Held A)) (node : Node) → AllStay hs ls → (o : Option (Held A)) → held_at hs node ≡ o
    → version_of hs node ≤ version_of ls node
later-by hs ls node s None e = let z = version_of-none hs node e in omega arith
later-by hs ls node s (Some h) e =
    let r = held_at-later hs ls node h s e in
    let a = version_of-held hs node h e in
    let b = version_of-held ls node r.0 r.1 in
    let c : h.rises ≤ (r.0).rises = r.2.rises in omega (arith, a, b, c)

-- a version never falls
pub version_of-later : {A : Type 0} (hs ls : List (Held A)) (node : Node) → AllStay hs ls → version_of hs node ≤ version_of ls node
version_of-later hs ls node s = later-by hs ls node s (held_at hs node) refl

-- a state is the same until its node rises
pub state-later : {A : Type 0} (hs ls : List (Held A)) (node : Node) (h : Held A) → AllStay hs ls → held_at hs node ≡ Some h
    → version_of ls node ≡ version_of hs node → (l : Held A) × (held_at ls node ≡ Some l) × (l.state ≡ h.state)
state-later hs ls node h s e v =
    let r = held_at-later hs ls node h s e in
    let a = version_of-held hs node h e in
    let b = version_of-held ls node r.0 r.1 in
    (r.0, r.1, r.2.state (sym b ∙ v ∙ a))

pub raised-here : {A : Type 0} (m : Analysis A) (h : Held A) (hs : List (Held A)) (post : Node × A) → same_node post.0 h.node ≡ true
    → raised m (h ∷ hs) post ≡ risen m h post.1 ∷ hs
raised-here m h hs post e = cond-true _ _ _ e

pub raised-there : {A : Type 0} (m : Analysis A) (h : Held A) (hs : List (Held A)) (post : Node × A) → same_node post.0 h.node ≡ false
    → raised m (h ∷ hs) post ≡ h ∷ raised m hs post
raised-there m h hs post e = cond-false _ _ _ e

-- a post changes the entry of its own node alone
pub held_at-raised_other : {A : Type 0} (m : Analysis A) (hs : List (Held A)) (post : Node × A) (node : Node)
    → same_node node post.0 ≡ false
    → held_at (raised m hs post) node ≡ held_at hs node
held_at-raised_other m [] post node ne = held_at-there (record { node = post.0; state = post.1; rises = 1 }) [] node ne
held_at-raised_other m (h ∷ hs) post node ne =
    elim (cases_Bool (same_node post.0 h.node)) [
      | inl t ↦ let p : post.0 ≡ h.node = same_node-eq post.0 h.node t in
          let n : same_node node h.node ≡ false = subst (λ x. same_node node x ≡ false) p ne in
          let k : same_node node (risen m h post.1).node ≡ false = ap (λ x. same_node node x) (Stays-risen m h post.1).node ∙ n in
          ap (λ l. held_at l node) (raised-here m h hs post t) ∙ held_at-there (risen m h post.1) hs node k ∙ sym (held_at-there h hs node n)
      | inr f ↦ ap (λ l. held_at l node) (raised-there m h hs post f) ∙ elim (cases_Bool (same_node node h.node)) [
        | inl t ↦ held_at-here h (raised m hs post) node t ∙ sym (held_at-here h hs node t)
        | inr g ↦ held_at-there h (raised m hs post) node g ∙ held_at-raised_other m hs post node ne ∙ sym (held_at-there h hs node g)
      ]
    ]

-- the entry that a post leaves at its node
abbrev pub entry_after : {A : Type 0} → Analysis A → Option (Held A) → Node × A → Held A
entry_after m None post = record { node = post.0; state = post.1; rises = 1 }
entry_after m (Some h) post = risen m h post.1

pub held_at-raised : {A : Type 0} (m : Analysis A) (hs : List (Held A)) (post : Node × A)
    → held_at (raised m hs post) post.0 ≡ Some (entry_after m (held_at hs post.0) post)
held_at-raised m [] post = held_at-here (record { node = post.0; state = post.1; rises = 1 }) [] post.0 (same_node-refl post.0)
held_at-raised m (h ∷ hs) post =
    elim (cases_Bool (same_node post.0 h.node)) [
      | inl t ↦ let k : same_node post.0 (risen m h post.1).node ≡ true = ap (λ x. same_node post.0 x) (Stays-risen m h post.1).node ∙ t in
          ap (λ l. held_at l post.0) (raised-here m h hs post t) ∙ held_at-here (risen m h post.1) hs post.0 k
          ∙ ap (λ o. Some (entry_after m o post)) (sym (held_at-here h hs post.0 t))
      | inr f ↦ ap (λ l. held_at l post.0) (raised-there m h hs post f) ∙ held_at-there h (raised m hs post) post.0 f
          ∙ held_at-raised m hs post ∙ ap (λ o. Some (entry_after m o post)) (sym (held_at-there h hs post.0 f))
    ]

-- a post makes no second entry of a node
pub AreApart-raised : {A : Type 0} (m : Analysis A) (hs : List (Held A)) (post : Node × A) → AreApart hs → AreApart (raised m hs post)
AreApart-raised m [] post a = (refl, tt)
AreApart-raised m (h ∷ hs) post a =
    elim (cases_Bool (same_node post.0 h.node)) [
      | inl t ↦ subst AreApart (sym (raised-here m h hs post t)) (ap (λ n. held_at hs n) (Stays-risen m h post.1).node ∙ a.0, a.1)
      | inr f ↦ subst AreApart (sym (raised-there m h hs post f))
          (held_at-raised_other m hs post h.node (same_node-turned post.0 h.node f) ∙ a.0, AreApart-raised m hs post a.1)
    ]

pub AreApart-all_raised : {A : Type 0} (m : Analysis A) (hs : List (Held A)) (posts : List (Node × A)) → AreApart hs
    → AreApart (all_raised m hs posts)
AreApart-all_raised m hs [] a = a
AreApart-all_raised m hs (post ∷ posts) a = AreApart-all_raised m (raised m hs post) posts (AreApart-raised m hs post a)

-- what holds of each entry holds of the one that is found
pub held_at-all : {A : Type 0} (P : Held A → Type 0) (hs : List (Held A)) (node : Node) (h : Held A)
    → AllByRecursion P hs → held_at hs node ≡ Some h → P h
held_at-all P [] node h a e = absurd (cc)
held_at-all P (k ∷ hs) node h a e =
    elim (cases_Bool (same_node node k.node)) [
      | inl t ↦ subst P (same_Some k h (sym (held_at-here k hs node t) ∙ e)) a.0
      | inr f ↦ held_at-all P hs node h a.1 (sym (held_at-there k hs node f) ∙ e)
    ]

-- a node that is not there has no place
pub place_of-none : {A : Type 0} (hs : List (Held A)) (node : Node) → held_at hs node ≡ None → place_of hs node ≡ None
place_of-none [] node e = refl
place_of-none (k ∷ hs) node e =
    elim (cases_Bool (same_node node k.node)) [
      | inl t ↦ absurd (let s : None ≡ Some k = sym e ∙ held_at-here k hs node t in cc)
      | inr f ↦ place_of-there k hs node f
          ∙ ap (λ o. option_map (λ place. place + 1) o) (place_of-none hs node (sym (held_at-there k hs node f) ∙ e))
    ]

-- the entry at a node's place is the node's
pub slice_get-place : {A : Type 0} (hs : List (Held A)) (node : Node) (p : ℕ) → place_of hs node ≡ Some p → slice_get hs p ≡ held_at hs node
slice_get-place [] node p e = absurd (cc)
slice_get-place (k ∷ hs) node p e =
    elim (cases_Bool (same_node node k.node)) [
      | inl t ↦ let z : 0 ≡ p = same_Some 0 p (sym (place_of-here k hs node t) ∙ e) in
          ap (λ i. slice_get (k ∷ hs) i) (sym z) ∙ sym (held_at-here k hs node t)
      | inr f ↦ let q = option_map-some (λ place. place + 1) (place_of hs node) p (sym (place_of-there k hs node f) ∙ e) in
          ap (λ i. slice_get (k ∷ hs) i) (sym (sym (add-one q.0) ∙ q.2)) ∙ slice_get-place hs node q.0 q.1 ∙ sym (held_at-there k hs node f)
    ]

-- a post of a new node puts it behind the others
pub raised-new : {A : Type 0} (m : Analysis A) (hs : List (Held A)) (post : Node × A) → held_at hs post.0 ≡ None
    → raised m hs post ≡ hs ++ entry_after m None post ∷ []
raised-new m [] post e = refl
raised-new m (h ∷ hs) post e =
    elim (cases_Bool (same_node post.0 h.node)) [
      | inl t ↦ absurd (let s : None ≡ Some h = sym e ∙ held_at-here h hs post.0 t in cc)
      | inr f ↦ raised-there m h hs post f ∙ ap (λ l. h ∷ l) (raised-new m hs post (sym (held_at-there h hs post.0 f) ∙ e))
    ]

-- a post of a node that is there changes the entry at its place
pub raised-at : {A : Type 0} (m : Analysis A) (hs : List (Held A)) (post : Node × A) (p : ℕ) (h : Held A) → place_of hs post.0 ≡ Some p
    → held_at hs post.0 ≡ Some h → raised m hs post ≡ slice_set hs p (risen m h post.1)
raised-at m [] post p h e d = absurd (cc)
raised-at m (k ∷ hs) post p h e d =
    elim (cases_Bool (same_node post.0 k.node)) [
      | inl t ↦ let z : 0 ≡ p = same_Some 0 p (sym (place_of-here k hs post.0 t) ∙ e) in
          let s : k ≡ h = same_Some k h (sym (held_at-here k hs post.0 t) ∙ d) in
          raised-here m k hs post t ∙ ap (λ x. risen m x post.1 ∷ hs) s ∙ ap (λ i. slice_set (k ∷ hs) i (risen m h post.1)) z
      | inr f ↦ let q = option_map-some (λ place. place + 1) (place_of hs post.0) p (sym (place_of-there k hs post.0 f) ∙ e) in
          raised-there m k hs post f ∙ ap (λ l. k ∷ l) (raised-at m hs post q.0 h q.1 (sym (held_at-there k hs post.0 f) ∙ d))
          ∙ ap (λ i. slice_set (k ∷ hs) i (risen m h post.1)) (sym (add-one q.0) ∙ q.2)
    ]
