-- Rows that take their places, and posts that raise them.
use Rattle.std.specs.Prelude.{◌≡◌, ℕ, ◌+◌, Bool, true, false, if◌then◌else◌, Option, None, Some, List, [], ◌∷◌, ◌++◌, length}
use Rattle.std.specs.Option.{option_map}
use Rattle.std.proofs.Common.{refl, sym, ◌∙◌, ap, subst, inl, inr, arith}
use Rattle.call_context.specs.declared.node.Node.{Node}
use Rattle.book_rules.specs.Same.{same_node}
use Rattle.book_rules.specs.SameTests.{same_node-eq, same_node-refl}
use Rattle.chip_analysis.specs.Analysis.{Analysis}
use Rattle.book_rules.specs.Machine.{Held, held_at, place_of, with_held, risen, raised, all_raised}
use Rattle.round_core.specs.Raise.{with_all}
use Rattle.round_core.specs.Shown.{AreDistinct}
use Rattle.round_core.proofs.Cases.{truth, if_true, if_false, next_place, no_place}

same_at : (n m k : Node) → n ≡ m → (b : Bool) → same_node n k ≡ b → same_node m k ≡ b
same_at n m k e b h = subst (λ t. same_node t k ≡ b) e h

same_with : (n m k : Node) → n ≡ m → (b : Bool) → same_node k n ≡ b → same_node k m ≡ b
same_with n m k e b h = subst (λ t. same_node k t ≡ b) e h

-- the test of nodes, the other way round
pub same_node-sym : (n m : Node) → same_node n m ≡ false → same_node m n ≡ false
same_node-sym n m h = elim (truth (same_node m n)) [
  | inl s ↦ let t : same_node n m ≡ true = same_at m n m (same_node-eq m n s) true (same_node-refl m) in let bad : true ≡ false = sym t ∙ h in absurd (cc)
  | inr s ↦ s
]

abbrev some_zero : Option ℕ
some_zero = Some 0

module _ {A : Type 0} where
  if_none : (b : Bool) (h : Held A) (o : Option (Held A)) → b ≡ true → (if b then Some h else o) ≡ None → ⊥
  if_none true h o e g = absurd (cc)
  if_none false h o e g = absurd (cc)

  held-node : (hs : List (Held A)) (n : Node) (h : Held A) → held_at hs n ≡ Some h → n ≡ h.node
  held-node [] n h e = absurd (cc)
  held-node (g ∷ hs) n h e = elim (truth (same_node n g.node)) [
    | inl s ↦ let k : Some g ≡ Some h = sym (if_true _ _ _ s) ∙ e in let same : g ≡ h = cc in same_node-eq n g.node s ∙ ap (λ t. t.node) same
    | inr s ↦ held-node hs n h (sym (if_false _ _ _ s) ∙ e)
  ]

  pub held_at-with_held-same : (hs : List (Held A)) (x : Held A) (n : Node) → n ≡ x.node → held_at (with_held hs x) n ≡ Some x
  held_at-with_held-same [] x n e = if_true _ _ _ (same_with n x.node n e true (same_node-refl n))
  held_at-with_held-same (h ∷ hs) x n e = elim (truth (same_node x.node h.node)) [
    | inl s ↦ ap (λ t. held_at t n) (if_true _ _ _ s) ∙ if_true _ _ _ (same_with n x.node n e true (same_node-refl n))
    | inr s ↦ ap (λ t. held_at t n) (if_false _ _ _ s) ∙ if_false _ _ _ (same_at x.node n h.node (sym e) false s) ∙ held_at-with_held-same hs x n e
  ]

  pub held_at-with_held-other : (hs : List (Held A)) (x : Held A) (n : Node) → same_node n x.node ≡ false
      → held_at (with_held hs x) n ≡ held_at hs n
  held_at-with_held-other [] x n o = if_false _ _ _ o
  held_at-with_held-other (h ∷ hs) x n o = elim (truth (same_node x.node h.node)) [
    | inl s ↦ ap (λ t. held_at t n) (if_true _ _ _ s) ∙ if_false _ _ _ o ∙ sym (if_false _ _ _ (same_with x.node h.node n (same_node-eq x.node h.node s) false o))
    | inr s ↦ ap (λ t. held_at t n) (if_false _ _ _ s) ∙ ap (λ r. if same_node n h.node then Some h else r) (held_at-with_held-other hs x n o)
  ]

  pub held_at-with_all-none : (ns es : List (Held A)) (n : Node) → held_at es n ≡ None → held_at (with_all ns es) n ≡ held_at ns n
  held_at-with_all-none ns [] n e = refl
  held_at-with_all-none ns (x ∷ es) n e = elim (truth (same_node n x.node)) [
    | inl s ↦ absurd (if_none (same_node n x.node) x (held_at es n) s e)
    | inr s ↦ held_at-with_all-none (with_held ns x) es n (sym (if_false _ _ _ s) ∙ e) ∙ held_at-with_held-other ns x n s
  ]

  pub held_at-with_all-some : (ns es : List (Held A)) (n : Node) (h : Held A) → AreDistinct es → held_at es n ≡ Some h
      → held_at (with_all ns es) n ≡ Some h
  held_at-with_all-some ns [] n h d e = absurd (cc)
  held_at-with_all-some ns (x ∷ es) n h d e = elim (truth (same_node n x.node)) [
    | inl s ↦
        let same : n ≡ x.node = same_node-eq n x.node s in
        held_at-with_all-none (with_held ns x) es n (subst (λ t. held_at es t ≡ None) (sym same) d.0)
        ∙ held_at-with_held-same ns x n same ∙ sym (if_true _ _ _ s) ∙ e
    | inr s ↦ held_at-with_all-some (with_held ns x) es n h d.1 (sym (if_false _ _ _ s) ∙ e)
  ]

  pub distinct-with_held : (hs : List (Held A)) (x : Held A) → AreDistinct hs → AreDistinct (with_held hs x)
  distinct-with_held [] x d = (refl, tt)
  distinct-with_held (h ∷ hs) x d = elim (truth (same_node x.node h.node)) [
    | inl s ↦ subst (λ t. AreDistinct t) (sym (if_true _ _ _ s)) (subst (λ n. held_at hs n ≡ None) (sym (same_node-eq x.node h.node s)) d.0, d.1)
    | inr s ↦ subst (λ t. AreDistinct t) (sym (if_false _ _ _ s))
        (held_at-with_held-other hs x h.node (same_node-sym x.node h.node s) ∙ d.0, distinct-with_held hs x d.1)
  ]

  pub distinct-with_all : (ns es : List (Held A)) → AreDistinct ns → AreDistinct (with_all ns es)
  distinct-with_all ns [] d = d
  distinct-with_all ns (x ∷ es) d = distinct-with_all (with_held ns x) es (distinct-with_held ns x d)

  -- a later row of the same node alone counts
  with_held-twice : (hs : List (Held A)) (g x : Held A) → x.node ≡ g.node → with_held (with_held hs g) x ≡ with_held hs x
  with_held-twice [] g x e = if_true _ _ _ (same_with x.node g.node x.node e true (same_node-refl x.node))
  with_held-twice (h ∷ hs) g x e = elim (truth (same_node g.node h.node)) [
    | inl s ↦ ap (λ t. with_held t x) (if_true _ _ _ s) ∙ if_true _ _ _ (same_with x.node g.node x.node e true (same_node-refl x.node))
        ∙ sym (if_true _ _ _ (same_at g.node x.node h.node (sym e) true s))
    | inr s ↦
        let o = same_at g.node x.node h.node (sym e) false s in
        ap (λ t. with_held t x) (if_false _ _ _ s) ∙ if_false _ _ _ o ∙ ap (λ t. h ∷ t) (with_held-twice hs g x e) ∙ sym (if_false _ _ _ o)
  ]

  -- rows of different nodes may take their places in either order, where one of them has its place
  with_held-commute : (hs : List (Held A)) (g x y : Held A) → same_node x.node g.node ≡ false → held_at hs x.node ≡ Some y
      → with_held (with_held hs g) x ≡ with_held (with_held hs x) g
  with_held-commute [] g x y o e = absurd (cc)
  with_held-commute (h ∷ hs) g x y o e = elim (truth (same_node g.node h.node)) [
    | inl s ↦
        let n : same_node x.node h.node ≡ false = same_with g.node h.node x.node (same_node-eq g.node h.node s) false o in
        ap (λ t. with_held t x) (if_true _ _ _ s) ∙ if_false _ _ _ o
        ∙ sym (ap (λ t. with_held t g) (if_false _ _ _ n) ∙ if_true _ _ _ s)
    | inr s ↦ elim (truth (same_node x.node h.node)) [
      | inl n ↦
          ap (λ t. with_held t x) (if_false _ _ _ s) ∙ if_true _ _ _ n
          ∙ sym (ap (λ t. with_held t g) (if_true _ _ _ n) ∙ if_false _ _ _ (same_node-sym x.node g.node o))
      | inr n ↦
          ap (λ t. with_held t x) (if_false _ _ _ s) ∙ if_false _ _ _ n
          ∙ ap (λ t. h ∷ t) (with_held-commute hs g x y o (sym (if_false _ _ _ n) ∙ e))
          ∙ sym (ap (λ t. with_held t g) (if_false _ _ _ n) ∙ if_false _ _ _ s)
    ]
  ]

  -- a row whose node has its place may come before rows of other nodes
  with_all-before : (es ms : List (Held A)) (x y : Held A) → held_at es x.node ≡ None → held_at ms x.node ≡ Some y
      → with_held (with_all ms es) x ≡ with_all (with_held ms x) es
  with_all-before [] ms x y e h = refl
  with_all-before (g ∷ es) ms x y e h = elim (truth (same_node x.node g.node)) [
    | inl s ↦ absurd (if_none (same_node x.node g.node) g (held_at es x.node) s e)
    | inr s ↦
        with_all-before es (with_held ms g) x y (sym (if_false _ _ _ s) ∙ e) (held_at-with_held-other ms g x.node s ∙ h)
        ∙ ap (λ t. with_all t es) (with_held-commute ms g x y s h)
  ]

  -- one more row may join the others before they take their places
  pub with_all-with_held : (es ns : List (Held A)) (x : Held A) → AreDistinct es
      → with_all ns (with_held es x) ≡ with_held (with_all ns es) x
  with_all-with_held [] ns x d = refl
  with_all-with_held (e ∷ es) ns x d = elim (truth (same_node x.node e.node)) [
    | inl s ↦
        let same : x.node ≡ e.node = same_node-eq x.node e.node s in
        ap (λ t. with_all ns t) (if_true _ _ _ s)
        ∙ ap (λ t. with_all t es) (sym (with_held-twice ns e x same))
        ∙ sym (with_all-before es (with_held ns e) x e (subst (λ n. held_at es n ≡ None) (sym same) d.0) (held_at-with_held-same ns e x.node same))
    | inr s ↦ ap (λ t. with_all ns t) (if_false _ _ _ s) ∙ with_all-with_held es (with_held ns e) x d.1
  ]

  -- a row that is there changes nothing
  with_held-there : (hs : List (Held A)) (h : Held A) → held_at hs h.node ≡ Some h → with_held hs h ≡ hs
  with_held-there [] h e = absurd (cc)
  with_held-there (g ∷ hs) h e = elim (truth (same_node h.node g.node)) [
    | inl s ↦ let k : Some g ≡ Some h = sym (if_true _ _ _ s) ∙ e in let same : h ≡ g = cc in if_true _ _ _ s ∙ ap (λ t. t ∷ hs) same
    | inr s ↦ if_false _ _ _ s ∙ ap (λ t. g ∷ t) (with_held-there hs h (sym (if_false _ _ _ s) ∙ e))
  ]

  pub place-none : (hs : List (Held A)) (n : Node) → held_at hs n ≡ None → place_of hs n ≡ None
  place-none [] n e = refl
  place-none (h ∷ hs) n e = elim (truth (same_node n h.node)) [
    | inl s ↦ let bad : Some h ≡ None = sym (if_true _ _ _ s) ∙ e in absurd (cc)
    | inr s ↦ if_false _ _ _ s ∙ ap (λ o. option_map (λ place. place + 1) o) (place-none hs n (sym (if_false _ _ _ s) ∙ e))
  ]

  -- places stay, and a new row goes last
  pub place-with_held : (hs : List (Held A)) (x : Held A) (n : Node) (p : ℕ) → place_of hs n ≡ Some p → place_of (with_held hs x) n ≡ Some p
  place-with_held [] x n p e = absurd (cc)
  place-with_held (h ∷ hs) x n p e = elim (truth (same_node x.node h.node)) [
    | inl s ↦
        let swap : (b : Bool) → same_node n h.node ≡ b → same_node n x.node ≡ b = λ b t. same_with h.node x.node n (sym (same_node-eq x.node h.node s)) b t in
        ap (λ t. place_of t n) (if_true _ _ _ s) ∙ elim (truth (same_node n h.node)) [
          | inl t ↦ if_true _ _ _ (swap true t) ∙ sym (if_true _ _ _ t) ∙ e
          | inr t ↦ if_false _ _ _ (swap false t) ∙ sym (if_false _ _ _ t) ∙ e
        ]
    | inr s ↦ ap (λ t. place_of t n) (if_false _ _ _ s) ∙ elim (truth (same_node n h.node)) [
      | inl t ↦ if_true _ _ _ t ∙ sym (if_true _ _ _ t) ∙ e
      | inr t ↦
          let q = next_place (place_of hs n) p (sym (if_false _ _ _ t) ∙ e) in
          if_false _ _ _ t ∙ ap (λ o. option_map (λ place. place + 1) o) (place-with_held hs x n q.0 q.1) ∙ ap (λ k. Some k) q.2
    ]
  ]

  pub place-with_all : (es ns : List (Held A)) (n : Node) (p : ℕ) → place_of ns n ≡ Some p → place_of (with_all ns es) n ≡ Some p
  place-with_all [] ns n p e = e
  place-with_all (x ∷ es) ns n p e = place-with_all es (with_held ns x) n p (place-with_held ns x n p e)

  pub place-new : (hs : List (Held A)) (x : Held A) → place_of hs x.node ≡ None → place_of (with_held hs x) x.node ≡ Some (length hs)
  place-new [] x e = if_true _ _ _ (same_node-refl x.node)
  place-new (h ∷ hs) x e = elim (truth (same_node x.node h.node)) [
    | inl s ↦ let bad : some_zero ≡ None = sym (if_true _ _ _ s) ∙ e in absurd (cc)
    | inr s ↦
        let up : length hs + 1 ≡ length (h ∷ hs) = omega arith in
        ap (λ t. place_of t x.node) (if_false _ _ _ s) ∙ if_false _ _ _ s
        ∙ ap (λ o. option_map (λ place. place + 1) o) (place-new hs x (no_place _ (sym (if_false _ _ _ s) ∙ e))) ∙ ap (λ k. Some k) up
  ]

  pub length-new : (hs : List (Held A)) (x : Held A) → place_of hs x.node ≡ None → length (with_held hs x) ≡ length hs + 1
  length-new [] x e = omega arith
  length-new (h ∷ hs) x e = elim (truth (same_node x.node h.node)) [
    | inl s ↦ let bad : some_zero ≡ None = sym (if_true _ _ _ s) ∙ e in absurd (cc)
    | inr s ↦
        let l = ap length (if_false (same_node x.node h.node) (x ∷ hs) (h ∷ with_held hs x) s) in
        let r = length-new hs x (no_place _ (sym (if_false _ _ _ s) ∙ e)) in omega arith
  ]

  pub length-there : (hs : List (Held A)) (x : Held A) (p : ℕ) → place_of hs x.node ≡ Some p → length (with_held hs x) ≡ length hs
  length-there [] x p e = absurd (cc)
  length-there (h ∷ hs) x p e = elim (truth (same_node x.node h.node)) [
    | inl s ↦ let l = ap length (if_true (same_node x.node h.node) (x ∷ hs) (h ∷ with_held hs x) s) in omega arith
    | inr s ↦
        let l = ap length (if_false (same_node x.node h.node) (x ∷ hs) (h ∷ with_held hs x) s) in
        let q = next_place (place_of hs x.node) p (sym (if_false _ _ _ s) ∙ e) in
        let r = length-there hs x q.0 q.1 in omega arith
  ]

  pub with_all-append : (ns es : List (Held A)) (x : Held A) → with_all ns (es ++ x ∷ []) ≡ with_held (with_all ns es) x
  with_all-append ns [] x = refl
  with_all-append ns (e ∷ es) x = with_all-append (with_held ns e) es x

  module _ (m : Analysis A) where
    risen-node : (h : Held A) (s : A) (b : Bool)
        → (if b then h else record { node = h.node; state = Rattle.book_rules.specs.Machine.risen_state m h.node h.state s (h.rises + 1); rises = h.rises + 1 }).node ≡ h.node
    risen-node h s true = refl
    risen-node h s false = refl

    pub raised-new : (hs : List (Held A)) (n : Node) (s : A) → held_at hs n ≡ None
        → raised m hs (n, s) ≡ with_held hs (record { node = n; state = s; rises = 1 })
    raised-new [] n s e = refl
    raised-new (h ∷ hs) n s e = elim (truth (same_node n h.node)) [
      | inl t ↦ absurd (if_none (same_node n h.node) h (held_at hs n) t e)
      | inr t ↦ if_false _ _ _ t ∙ ap (λ r. h ∷ r) (raised-new hs n s (sym (if_false _ _ _ t) ∙ e)) ∙ sym (if_false _ _ _ t)
    ]

    pub raised-there : (hs : List (Held A)) (n : Node) (s : A) (h : Held A) → held_at hs n ≡ Some h
        → raised m hs (n, s) ≡ with_held hs (risen m h s)
    raised-there [] n s h e = absurd (cc)
    raised-there (g ∷ hs) n s h e =
        let own : n ≡ (risen m h s).node = held-node (g ∷ hs) n h e ∙ sym (risen-node h s (m.within s h.state)) in
        elim (truth (same_node n g.node)) [
          | inl t ↦
              let k : Some g ≡ Some h = sym (if_true _ _ _ t) ∙ e in
              let same : g ≡ h = cc in
              if_true _ _ _ t ∙ ap (λ x. risen m x s ∷ hs) same ∙ sym (if_true _ _ _ (same_at n (risen m h s).node g.node own true t))
          | inr t ↦
              if_false _ _ _ t ∙ ap (λ r. g ∷ r) (raised-there hs n s h (sym (if_false _ _ _ t) ∙ e))
              ∙ sym (if_false _ _ _ (same_at n (risen m h s).node g.node own false t))
        ]

    pub raised-within : (hs : List (Held A)) (n : Node) (s : A) (h : Held A) → held_at hs n ≡ Some h
        → m.within s h.state ≡ true → raised m hs (n, s) ≡ hs
    raised-within hs n s h e w =
        raised-there hs n s h e ∙ ap (λ r. with_held hs r) (if_true _ _ _ w)
        ∙ with_held-there hs h (ap (λ k. held_at hs k) (sym (held-node hs n h e)) ∙ e)

    pub all_raised-append : (hs : List (Held A)) (ps : List (Node × A)) (p : Node × A)
        → all_raised m hs (ps ++ p ∷ []) ≡ raised m (all_raised m hs ps) p
    all_raised-append hs [] p = refl
    all_raised-append hs (q ∷ ps) p = all_raised-append (raised m hs q) ps p
