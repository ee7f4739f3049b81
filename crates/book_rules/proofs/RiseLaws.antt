-- Rises of a node: at least 1 and at most 64, with top at the 64th; and what is posted is under its node from then on.
use Rattle.std.specs.Prelude.{◌≡◌, ℕ, ◌+◌, nat_le, Bool, true, false, Option, None, Some, List, [], ◌∷◌}
use Rattle.std.proofs.Common.{refl, sym, ◌∙◌, ap, subst, inl, inr, arith}
use Rattle.std.proofs.lemmas.Bool.{cases_Bool, cond-true, cond-false, false≢true, cond_both, cases_lt}
use Rattle.call_context.specs.declared.node.Node.{Node}
use Rattle.book_rules.specs.Sound.{AreInBounds, AreUnder, IsInBounds, PostsAreFormed}
use Rattle.book_rules.specs.Same.{same_node}
use Rattle.book_rules.specs.SameTests.{same_node-eq}
use Rattle.chip_analysis.specs.Analysis.{Analysis, KeepsForm, TopIsGreatest, IsOrdered}
use Rattle.book_rules.specs.Table.{IsUnder}
use Rattle.book_rules.specs.Machine.{Held, held_at, risen_state, risen, raised, all_raised}
use Rattle.book_rules.proofs.HeldLaws.{held_at-all, held_at-node, held_at-raised, held_at-raised_other, raised-here, raised-there, entry_after}
use Rattle.book_rules.specs.Staying.{Stays-risen}

pub held_at-in_bounds : {A : Type 0} (m : Analysis A) (hs : List (Held A)) (node : Node) (h : Held A)
    → AreInBounds m hs → held_at hs node ≡ Some h → IsInBounds m h
held_at-in_bounds m hs node h a e = held_at-all (IsInBounds m) hs node h a e

risen-within : {A : Type 0} (m : Analysis A) (h : Held A) (posted : A) → m.within posted h.state ≡ true → risen m h posted ≡ h
risen-within m h posted e = cond-true _ _ _ e

risen-beyond : {A : Type 0} (m : Analysis A) (h : Held A) (posted : A) → m.within posted h.state ≡ false
    → risen m h posted ≡ record { node = h.node; state = risen_state m h.node h.state posted (h.rises + 1); rises = h.rises + 1 }
risen-beyond m h posted e = cond-false _ _ _ e

-- what holds of a join, of both widenings and of top holds of the state after a rise
risen_state-by : {A : Type 0} (m : Analysis A) (P : A → Type 0) (node : Node) (held posted : A) (rises : ℕ) → P (m.join held posted)
    → ((coarse : Bool) → P (m.widen coarse held posted)) → P (m.top node) → P (risen_state m node held posted rises)
risen_state-by m P node held posted rises j w t =
    cond_both (nat_le rises 15) _ _ P (λ e. j)
    (λ e. cond_both (nat_le rises 47) _ _ P (λ e. w false) (λ e. cond_both (nat_le rises 63) _ _ P (λ e. w true) (λ e. t)))

-- a rise stays in bounds: none is left where the state is top
pub risen-in_bounds : {A : Type 0} (m : Analysis A) → KeepsForm m → TopIsGreatest m
    → (h : Held A) (posted : A) → IsInBounds m h → m.HasForm h.node posted → IsInBounds m (risen m h posted)
risen-in_bounds m keeps top h posted i f =
    elim (cases_Bool (m.within posted h.state)) [
      | inl t ↦ subst (λ x. IsInBounds m x) (sym (risen-within m h posted t)) i
      | inr b ↦ subst (λ x. IsInBounds m x) (sym (risen-beyond m h posted b)) (record {
        least = omega arith;
        most = elim (cases_lt h.rises 64) [
          | inl lt ↦ omega arith
          | inr ge ↦ let all : h.rises ≡ 64 = omega (arith, i.most) in
              absurd (false≢true (sym b ∙ ap (λ s. m.within posted s) (i.last all) ∙ top h.node posted f))
        ];
        last = λ e. ap (λ r. risen_state m h.node h.state posted r) e;
        form = risen_state-by m (λ s. m.HasForm h.node s) h.node h.state posted (h.rises + 1)
            (keeps.joined h.node h.state posted i.form f) (λ c. keeps.widened c h.node h.state posted i.form f) (keeps.topped h.node h.state i.form);
      })
    ]

pub raised-in_bounds : {A : Type 0} (m : Analysis A) → KeepsForm m → TopIsGreatest m
    → (hs : List (Held A)) (post : Node × A) → AreInBounds m hs → m.HasForm post.0 post.1 → AreInBounds m (raised m hs post)
raised-in_bounds m keeps top [] post a f = (record { least = omega arith; most = omega arith; last = λ e. absurd (omega arith); form = f }, tt)
raised-in_bounds m keeps top (h ∷ hs) post a f =
    elim (cases_Bool (same_node post.0 h.node)) [
      | inl t ↦ let n : post.0 ≡ h.node = same_node-eq post.0 h.node t in
          subst (AreInBounds m) (sym (raised-here m h hs post t))
          (risen-in_bounds m keeps top h post.1 a.0 (subst (λ x. m.HasForm x post.1) n f), a.1)
      | inr g ↦ subst (AreInBounds m) (sym (raised-there m h hs post g)) (a.0, raised-in_bounds m keeps top hs post a.1 f)
    ]

pub all_raised-in_bounds : {A : Type 0} (m : Analysis A) → KeepsForm m → TopIsGreatest m
    → (hs : List (Held A)) (posts : List (Node × A)) → AreInBounds m hs → PostsAreFormed m posts → AreInBounds m (all_raised m hs posts)
all_raised-in_bounds m keeps top hs [] a f = a
all_raised-in_bounds m keeps top hs (post ∷ posts) a f =
    all_raised-in_bounds m keeps top (raised m hs post) posts (raised-in_bounds m keeps top hs post a f.0) f.1

-- both the held state and the posted one are within the risen one
risen-above : {A : Type 0} (m : Analysis A) → IsOrdered m → (h : Held A) (posted : A)
    → m.HasForm h.node h.state → m.HasForm h.node posted
    → (m.within h.state (risen m h posted).state ≡ true) × (m.within posted (risen m h posted).state ≡ true)
risen-above m o h posted hf pf =
    elim (cases_Bool (m.within posted h.state)) [
      | inl t ↦ subst (λ x. (m.within h.state x.state ≡ true) × (m.within posted x.state ≡ true)) (sym (risen-within m h posted t)) (o.itself h.node h.state hf, t)
      | inr b ↦ subst (λ x. (m.within h.state x.state ≡ true) × (m.within posted x.state ≡ true)) (sym (risen-beyond m h posted b))
          (risen_state-by m (λ s. (m.within h.state s ≡ true) × (m.within posted s ≡ true)) h.node h.state posted (h.rises + 1)
          (o.held_joined h.node h.state posted hf pf, o.posted_joined h.node h.state posted hf pf)
          (λ c. (o.held_widened c h.node h.state posted hf pf, o.posted_widened c h.node h.state posted hf pf))
          (o.topped h.node h.state hf, o.topped h.node posted pf))
    ]

-- by whether the node was there
posted-by : {A : Type 0} (m : Analysis A) → IsOrdered m → (hs : List (Held A)) (post : Node × A)
    → AreInBounds m hs → m.HasForm post.0 post.1 → (was : Option (Held A)) → held_at hs post.0 ≡ was → IsUnder m (raised m hs post) post
posted-by m o hs post a f None e =
    (entry_after m None post, held_at-raised m hs post ∙ ap (λ w. Some (entry_after m w post)) e, o.itself post.0 post.1 f)
posted-by m o hs post a f (Some h) e =
    let n : h.node ≡ post.0 = held_at-node hs post.0 h e in
    let i = held_at-in_bounds m hs post.0 h a e in (
      risen m h post.1,
      held_at-raised m hs post ∙ ap (λ w. Some (entry_after m w post)) e,
      (risen-above m o h post.1 i.form (subst (λ x. m.HasForm x post.1) (sym n) f)).1,
    )

-- what is posted is under its node then
pub IsUnder-posted : {A : Type 0} (m : Analysis A) → IsOrdered m → (hs : List (Held A)) (post : Node × A)
    → AreInBounds m hs → m.HasForm post.0 post.1 → IsUnder m (raised m hs post) post
IsUnder-posted m o hs post a f = posted-by m o hs post a f (held_at hs post.0) refl

-- what is under its node stays so
pub IsUnder-raised : {A : Type 0} (m : Analysis A) → KeepsForm m → IsOrdered m
    → (hs : List (Held A)) (post : Node × A) (p : Node × A) → AreInBounds m hs → m.HasForm post.0 post.1 → m.HasForm p.0 p.1
    → IsUnder m hs p → IsUnder m (raised m hs post) p
IsUnder-raised m keeps o hs post p a f g u =
    elim (cases_Bool (same_node p.0 post.0)) [
      | inl t ↦ let n : p.0 ≡ post.0 = same_node-eq p.0 post.0 t in
          let e : held_at hs post.0 ≡ Some u.0 = ap (λ x. held_at hs x) (sym n) ∙ u.1 in
          let k : (u.0).node ≡ p.0 = held_at-node hs p.0 u.0 u.1 in
          let i = held_at-in_bounds m hs post.0 u.0 a e in
          let gf : m.HasForm (u.0).node p.1 = subst (λ x. m.HasForm x p.1) (sym k) g in
          let pf : m.HasForm (u.0).node post.1 = subst (λ x. m.HasForm x post.1) (sym (k ∙ n)) f in
          let r = risen-in_bounds m keeps o.topped u.0 post.1 i pf in
          let rf : m.HasForm (u.0).node (risen m u.0 post.1).state = subst (λ x. m.HasForm x (risen m u.0 post.1).state) (Stays-risen m u.0 post.1).node r.form in (
            risen m u.0 post.1,
            ap (λ x. held_at (raised m hs post) x) n ∙ held_at-raised m hs post ∙ ap (λ w. Some (entry_after m w post)) e,
            o.along (u.0).node p.1 (u.0).state (risen m u.0 post.1).state gf i.form rf u.2 (risen-above m o u.0 post.1 i.form pf).0,
          )
      | inr d ↦ (u.0, held_at-raised_other m hs post p.0 d ∙ u.1, u.2)
    ]

pub IsUnder-all_raised : {A : Type 0} (m : Analysis A) → KeepsForm m → IsOrdered m
    → (hs : List (Held A)) (posts : List (Node × A)) (p : Node × A) → AreInBounds m hs → PostsAreFormed m posts → m.HasForm p.0 p.1
    → IsUnder m hs p → IsUnder m (all_raised m hs posts) p
IsUnder-all_raised m keeps o hs [] p a f g u = u
IsUnder-all_raised m keeps o hs (post ∷ posts) p a f g u =
    IsUnder-all_raised m keeps o (raised m hs post) posts p (raised-in_bounds m keeps o.topped hs post a f.0) f.1 g
    (IsUnder-raised m keeps o hs post p a f.0 g u)

pub AreUnder-all_raised : {A : Type 0} (m : Analysis A) → KeepsForm m → IsOrdered m
    → (hs : List (Held A)) (posts : List (Node × A)) (ps : List (Node × A)) → AreInBounds m hs → PostsAreFormed m posts
    → PostsAreFormed m ps
    → AreUnder m hs ps → AreUnder m (all_raised m hs posts) ps
AreUnder-all_raised m keeps o hs posts [] a f g u = tt
AreUnder-all_raised m keeps o hs posts (p ∷ ps) a f g u =
    (IsUnder-all_raised m keeps o hs posts p a f g.0 u.0, AreUnder-all_raised m keeps o hs posts ps a f g.1 u.1)

-- after posts in their order each is under its node
pub all_raised-under : {A : Type 0} (m : Analysis A) → KeepsForm m → IsOrdered m
    → (hs : List (Held A)) (posts : List (Node × A)) → AreInBounds m hs → PostsAreFormed m posts → AreUnder m (all_raised m hs posts) posts
all_raised-under m keeps o hs [] a f = tt
all_raised-under m keeps o hs (post ∷ posts) a f =
    let b = raised-in_bounds m keeps o.topped hs post a f.0 in (
      IsUnder-all_raised m keeps o (raised m hs post) posts post b f.1 f.0 (IsUnder-posted m o hs post a f.0),
      all_raised-under m keeps o (raised m hs post) posts b f.1,
    )
