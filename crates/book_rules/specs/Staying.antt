-- Lemmas: nodes stay over posts, and one that is there is there later.
use Rattle.std.specs.Prelude.{◌≡◌, ◌+◌, true, false, Some, List, [], ◌∷◌, if◌then◌else◌}
use Rattle.std.proofs.Common.{refl, sym, ◌∙◌, ap, subst, inl, inr, arith}
use Rattle.std.proofs.lemmas.Option.{same_Some}
use Rattle.std.proofs.lemmas.Bool.{cases_Bool, cond-true, cond-false}
use Rattle.call_context.specs.declared.node.Node.{Node}
use Rattle.chip_analysis.specs.Analysis.{Analysis}
use Rattle.book_rules.specs.Same.{same_node}
use Rattle.book_rules.specs.Machine.{Held, held_at, risen_state, risen, raised, all_raised}
use Rattle.book_rules.specs.Stays.{Stays, AllStay}

pub held_at-here : {A : Type 0} (h : Held A) (hs : List (Held A)) (node : Node) → same_node node h.node ≡ true
    → held_at (h ∷ hs) node ≡ Some h
held_at-here h hs node e = cond-true _ _ _ e

pub held_at-there : {A : Type 0} (h : Held A) (hs : List (Held A)) (node : Node) → same_node node h.node ≡ false
    → held_at (h ∷ hs) node ≡ held_at hs node
held_at-there h hs node e = cond-false _ _ _ e

pub Stays-refl : {A : Type 0} (h : Held A) → Stays h h
Stays-refl h = record { node = refl; rises = omega arith; state = λ e. refl }

Stays-trans : {A : Type 0} (h l k : Held A) → Stays h l → Stays l k → Stays h k
Stays-trans h l k s t = record {
  node = t.node ∙ s.node;
  rises = omega arith;
  state = λ e. let e1 : k.rises ≡ l.rises = omega arith in let e2 : l.rises ≡ h.rises = omega arith in t.state e1 ∙ s.state e2;
}

pub AllStay-refl : {A : Type 0} (hs : List (Held A)) → AllStay hs hs
AllStay-refl [] = tt
AllStay-refl (h ∷ hs) = (Stays-refl h, AllStay-refl hs)

pub AllStay-trans : {A : Type 0} (hs ls ks : List (Held A)) → AllStay hs ls → AllStay ls ks → AllStay hs ks
AllStay-trans [] ls ks s t = tt
AllStay-trans (h ∷ hs) (l ∷ ls) (k ∷ ks) s t = (Stays-trans h l k s.0 t.0, AllStay-trans hs ls ks s.1 t.1)
AllStay-trans (h ∷ hs) [] ks s t = absurd s
AllStay-trans (h ∷ hs) (l ∷ ls) [] s t = absurd t

-- a node that rises stays
pub Stays-risen : {A : Type 0} (m : Analysis A) (h : Held A) (posted : A) → Stays h (risen m h posted)
Stays-risen m h posted =
    elim (m.within posted h.state) as (λ v. Stays h (if v then h else record { node = h.node; state = risen_state m h.node h.state posted (h.rises + 1); rises = h.rises + 1 })) [
      | true ↦ Stays-refl h
      | false ↦ record { node = refl; rises = omega arith; state = λ e. absurd (omega arith) }
    ]

-- a post leaves each node in its place
pub AllStay-raised : {A : Type 0} (m : Analysis A) (hs : List (Held A)) (post : Node × A) → AllStay hs (raised m hs post)
AllStay-raised m [] post = tt
AllStay-raised m (h ∷ hs) post =
    elim (same_node post.0 h.node) as (λ v. AllStay (h ∷ hs) (if v then risen m h post.1 ∷ hs else h ∷ raised m hs post)) [
      | true ↦ (Stays-risen m h post.1, AllStay-refl hs)
      | false ↦ (Stays-refl h, AllStay-raised m hs post)
    ]

pub AllStay-all_raised : {A : Type 0} (m : Analysis A) (hs : List (Held A)) (posts : List (Node × A)) → AllStay hs (all_raised m hs posts)
AllStay-all_raised m hs [] = AllStay-refl hs
AllStay-all_raised m hs (post ∷ posts) =
    AllStay-trans hs (raised m hs post) (all_raised m (raised m hs post) posts) (AllStay-raised m hs post) (AllStay-all_raised m (raised m hs post) posts)

-- a node that is there is there later, and stays
pub held_at-later : {A : Type 0} (hs ls : List (Held A)) (node : Node) (h : Held A) → AllStay hs ls → held_at hs node ≡ Some h
    → (l : Held A) × (held_at ls node ≡ Some l) × Stays h l
held_at-later [] ls node h s e = absurd (cc)
held_at-later (k ∷ hs) [] node h s e = absurd s
held_at-later (k ∷ hs) (l ∷ ls) node h s e =
    elim (cases_Bool (same_node node k.node)) [
      | inl t ↦ let e1 : k ≡ h = same_Some k h (sym (held_at-here k hs node t) ∙ e) in
          let u : same_node node l.node ≡ true = ap (λ x. same_node node x) s.0.node ∙ t in
          (l, held_at-here l ls node u, subst (λ x. Stays x l) e1 s.0)
      | inr f ↦ let u : same_node node l.node ≡ false = ap (λ x. same_node node x) s.0.node ∙ f in
          let r = held_at-later hs ls node h s.1 (sym (held_at-there k hs node f) ∙ e) in
          (r.0, held_at-there l ls node u ∙ r.1, r.2)
    ]
