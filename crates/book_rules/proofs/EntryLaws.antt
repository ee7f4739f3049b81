-- The entries of units that were done and of those that are out, and the inputs of units, under events.
use Rattle.std.specs.Prelude.{◌≡◌, ℕ, ◌<◌, true, false, Option, None, Some, List, [], ◌∷◌, ◌++◌, Contains}
use Rattle.plain_lemmas.specs.Members.{in_none, in_cons, in_first, in_rest}
use Rattle.std.specs.List.{AllByRecursion}
use Rattle.std.specs.Option.{option_map, option_and_then}
use Rattle.std.proofs.Common.{refl, sym, ◌∙◌, ap, ap₂, subst, inl, inr, arith}
use Rattle.std.proofs.lemmas.Bool.{cases_Bool, cond-true, cond-false, false_from_ne_true, false≢true}
use Rattle.std.proofs.lemmas.Option.{same_Some}
use Rattle.call_context.specs.declared.node.Node.{Node}
use Rattle.call_context.specs.declared.node.Unit.{Unit as WorkUnit}
use Rattle.call_context.specs.declared.node.Unit.TheVariants.{One, Back}
use Rattle.book_rules.specs.Sound.{AreUpTo}
use Rattle.book_rules.specs.Same.{same_unit}
use Rattle.book_rules.specs.SameTests.{same_unit-refl, same_unit-eq}
use Rattle.book_rules.specs.declared.versions.Versions.{Versions}
use Rattle.book_rules.proofs.HeldLaws.{version_of-later, state-later, option_map-some}
use Rattle.book_rules.specs.Staying.{held_at-later}
use Rattle.book_rules.specs.Counts.{AreOutOnce}
use Rattle.book_rules.specs.Machine.{Held, Done, Out, held_at, done_at, out_at, with_done, without, versions_of, inputs_of, HasRisen}
use Rattle.book_rules.specs.Stays.{AllStay}

pub same_unit-turned : (a b : WorkUnit) → same_unit a b ≡ false → same_unit b a ≡ false
same_unit-turned a b e =
    false_from_ne_true (same_unit b a) (λ t. let s : b ≡ a = same_unit-eq b a t in
    false≢true (sym e ∙ subst (λ x. same_unit a x ≡ true) (sym s) (same_unit-refl a)))

pub done_at-here : {A : Type 0} (d : Done A) (ds : List (Done A)) (unit : WorkUnit) → same_unit unit d.unit ≡ true
    → done_at (d ∷ ds) unit ≡ Some d
done_at-here d ds unit e = cond-true _ _ _ e

pub done_at-there : {A : Type 0} (d : Done A) (ds : List (Done A)) (unit : WorkUnit) → same_unit unit d.unit ≡ false
    → done_at (d ∷ ds) unit ≡ done_at ds unit
done_at-there d ds unit e = cond-false _ _ _ e

pub out_at-here : {A : Type 0} (o : Out A) (os : List (Out A)) (unit : WorkUnit) → same_unit unit o.unit ≡ true
    → out_at (o ∷ os) unit ≡ Some o
out_at-here o os unit e = cond-true _ _ _ e

pub out_at-there : {A : Type 0} (o : Out A) (os : List (Out A)) (unit : WorkUnit) → same_unit unit o.unit ≡ false
    → out_at (o ∷ os) unit ≡ out_at os unit
out_at-there o os unit e = cond-false _ _ _ e

pub with_done-here : {A : Type 0} (d : Done A) (ds : List (Done A)) (new : Done A) → same_unit new.unit d.unit ≡ true
    → with_done (d ∷ ds) new ≡ new ∷ ds
with_done-here d ds new e = cond-true _ _ _ e

pub with_done-there : {A : Type 0} (d : Done A) (ds : List (Done A)) (new : Done A) → same_unit new.unit d.unit ≡ false
    → with_done (d ∷ ds) new ≡ d ∷ with_done ds new
with_done-there d ds new e = cond-false _ _ _ e

pub without-here : {A : Type 0} (o : Out A) (os : List (Out A)) (unit : WorkUnit) → same_unit unit o.unit ≡ true
    → without (o ∷ os) unit ≡ os
without-here o os unit e = cond-true _ _ _ e

pub without-there : {A : Type 0} (o : Out A) (os : List (Out A)) (unit : WorkUnit) → same_unit unit o.unit ≡ false
    → without (o ∷ os) unit ≡ o ∷ without os unit
without-there o os unit e = cond-false _ _ _ e

-- what holds of each entry that was done holds of the one that is found
pub done_at-all : {A : Type 0} (P : Done A → Type 0) (ds : List (Done A)) (unit : WorkUnit) (d : Done A)
    → AllByRecursion P ds → done_at ds unit ≡ Some d
    → P d × (d.unit ≡ unit)
done_at-all P [] unit d a e = absurd (cc)
done_at-all P (k ∷ ds) unit d a e =
    elim (cases_Bool (same_unit unit k.unit)) [
      | inl t ↦ let s : k ≡ d = same_Some k d (sym (done_at-here k ds unit t) ∙ e) in
          (subst P s a.0, ap (λ x. x.unit) (sym s) ∙ sym (same_unit-eq unit k.unit t))
      | inr f ↦ done_at-all P ds unit d a.1 (sym (done_at-there k ds unit f) ∙ e)
    ]

pub out_at-all : {A : Type 0} (P : Out A → Type 0) (os : List (Out A)) (unit : WorkUnit) (o : Out A)
    → AllByRecursion P os → out_at os unit ≡ Some o
    → P o × (o.unit ≡ unit)
out_at-all P [] unit o a e = absurd (cc)
out_at-all P (k ∷ os) unit o a e =
    elim (cases_Bool (same_unit unit k.unit)) [
      | inl t ↦ let s : k ≡ o = same_Some k o (sym (out_at-here k os unit t) ∙ e) in
          (subst P s a.0, ap (λ x. x.unit) (sym s) ∙ sym (same_unit-eq unit k.unit t))
      | inr f ↦ out_at-all P os unit o a.1 (sym (out_at-there k os unit f) ∙ e)
    ]

-- what holds of each element holds of one that the list has, and what holds of each that it has holds of all
pub each_of : {X : Type 0} (P : X → Type 0) (xs : List X) (x : X) → AllByRecursion P xs → Contains xs x → P x
each_of P [] x all h = absurd (in_none x h)
each_of P (first ∷ xs) x all h = elim (in_cons first xs x h) [ inl same ↦ subst P same all.0 | inr rest ↦ each_of P xs x all.1 rest ]

pub all_of : {X : Type 0} (P : X → Type 0) (xs : List X) → ((x : X) → Contains xs x → P x) → AllByRecursion P xs
all_of P [] each = tt
all_of P (x ∷ xs) each = (each x (in_first x xs), all_of P xs (λ y h. each y (in_rest x xs y h)))

pub all-any : {X : Type 0} (xs : List X) → AllByRecursion (λ x. Unit {0}) xs
all-any [] = tt
all-any (x ∷ xs) = (tt, all-any xs)

pub all-map : {X : Type 0} (P Q : X → Type 0) → ((x : X) → P x → Q x) → (xs : List X) → AllByRecursion P xs → AllByRecursion Q xs
all-map P Q f [] a = tt
all-map P Q f (x ∷ xs) a = (f x a.0, all-map P Q f xs a.1)

pub all-push : {X : Type 0} (P : X → Type 0) (xs : List X) (x : X) → AllByRecursion P xs → P x → AllByRecursion P (xs ++ x ∷ [])
all-push P [] x a p = (p, tt)
all-push P (y ∷ xs) x a p = (a.0, all-push P xs x a.1 p)

pub all-with_done : {A : Type 0} (P : Done A → Type 0) (ds : List (Done A)) (new : Done A) → AllByRecursion P ds → P new
    → AllByRecursion P (with_done ds new)
all-with_done P [] new a p = (p, tt)
all-with_done P (d ∷ ds) new a p =
    elim (cases_Bool (same_unit new.unit d.unit)) [
      | inl t ↦ subst (AllByRecursion P) (sym (with_done-here d ds new t)) (p, a.1)
      | inr f ↦ subst (AllByRecursion P) (sym (with_done-there d ds new f)) (a.0, all-with_done P ds new a.1 p)
    ]

pub all-without : {A : Type 0} (P : Out A → Type 0) (os : List (Out A)) (unit : WorkUnit) → AllByRecursion P os
    → AllByRecursion P (without os unit)
all-without P [] unit a = tt
all-without P (o ∷ os) unit a =
    elim (cases_Bool (same_unit unit o.unit)) [
      | inl t ↦ subst (AllByRecursion P) (sym (without-here o os unit t)) a.1
      | inr f ↦ subst (AllByRecursion P) (sym (without-there o os unit f)) (a.0, all-without P os unit a.1)
    ]

pub done_at-with_done : {A : Type 0} (ds : List (Done A)) (new : Done A) → done_at (with_done ds new) new.unit ≡ Some new
done_at-with_done [] new = done_at-here new [] new.unit (same_unit-refl new.unit)
done_at-with_done (d ∷ ds) new =
    elim (cases_Bool (same_unit new.unit d.unit)) [
      | inl t ↦ ap (λ l. done_at l new.unit) (with_done-here d ds new t) ∙ done_at-here new ds new.unit (same_unit-refl new.unit)
      | inr f ↦ ap (λ l. done_at l new.unit) (with_done-there d ds new f) ∙ done_at-there d (with_done ds new) new.unit f ∙ done_at-with_done ds new
    ]

-- the last works of other units stay
pub done_at-with_done_other : {A : Type 0} (ds : List (Done A)) (new : Done A) (unit : WorkUnit) → same_unit unit new.unit ≡ false
    → done_at (with_done ds new) unit ≡ done_at ds unit
done_at-with_done_other [] new unit ne = done_at-there new [] unit ne
done_at-with_done_other (d ∷ ds) new unit ne =
    elim (cases_Bool (same_unit new.unit d.unit)) [
      | inl t ↦ let n : same_unit unit d.unit ≡ false = subst (λ x. same_unit unit x ≡ false) (same_unit-eq new.unit d.unit t) ne in
          ap (λ l. done_at l unit) (with_done-here d ds new t) ∙ done_at-there new ds unit ne ∙ sym (done_at-there d ds unit n)
      | inr f ↦ ap (λ l. done_at l unit) (with_done-there d ds new f) ∙ elim (cases_Bool (same_unit unit d.unit)) [
        | inl t ↦ done_at-here d (with_done ds new) unit t ∙ sym (done_at-here d ds unit t)
        | inr g ↦ done_at-there d (with_done ds new) unit g ∙ done_at-with_done_other ds new unit ne ∙ sym (done_at-there d ds unit g)
      ]
    ]

pub out_at-without_other : {A : Type 0} (os : List (Out A)) (gone unit : WorkUnit) → same_unit unit gone ≡ false
    → out_at (without os gone) unit ≡ out_at os unit
out_at-without_other [] gone unit ne = refl
out_at-without_other (o ∷ os) gone unit ne =
    elim (cases_Bool (same_unit gone o.unit)) [
      | inl t ↦ let n : same_unit unit o.unit ≡ false = subst (λ x. same_unit unit x ≡ false) (same_unit-eq gone o.unit t) ne in
          ap (λ l. out_at l unit) (without-here o os gone t) ∙ sym (out_at-there o os unit n)
      | inr f ↦ ap (λ l. out_at l unit) (without-there o os gone f) ∙ elim (cases_Bool (same_unit unit o.unit)) [
        | inl t ↦ out_at-here o (without os gone) unit t ∙ sym (out_at-here o os unit t)
        | inr g ↦ out_at-there o (without os gone) unit g ∙ out_at-without_other os gone unit ne ∙ sym (out_at-there o os unit g)
      ]
    ]

out_at-gone : {A : Type 0} (os : List (Out A)) (gone unit : WorkUnit) → out_at os unit ≡ None → out_at (without os gone) unit ≡ None
out_at-gone [] gone unit e = refl
out_at-gone (o ∷ os) gone unit e =
    elim (cases_Bool (same_unit unit o.unit)) [
      | inl t ↦ absurd (let s : None ≡ Some o = sym e ∙ out_at-here o os unit t in cc)
      | inr f ↦ let e' : out_at os unit ≡ None = sym (out_at-there o os unit f) ∙ e in
          elim (cases_Bool (same_unit gone o.unit)) [
            | inl t ↦ ap (λ l. out_at l unit) (without-here o os gone t) ∙ e'
            | inr g ↦ ap (λ l. out_at l unit) (without-there o os gone g) ∙ out_at-there o (without os gone) unit f ∙ out_at-gone os gone unit e'
          ]
    ]

-- a unit that is taken back is out no more
pub out_at-without : {A : Type 0} (os : List (Out A)) (unit : WorkUnit) → AreOutOnce os → out_at (without os unit) unit ≡ None
out_at-without [] unit a = refl
out_at-without (o ∷ os) unit a =
    elim (cases_Bool (same_unit unit o.unit)) [
      | inl t ↦ ap (λ l. out_at l unit) (without-here o os unit t) ∙ ap (λ u. out_at os u) (same_unit-eq unit o.unit t) ∙ a.0
      | inr f ↦ ap (λ l. out_at l unit) (without-there o os unit f) ∙ out_at-there o (without os unit) unit f ∙ out_at-without os unit a.1
    ]

pub AreOutOnce-without : {A : Type 0} (os : List (Out A)) (unit : WorkUnit) → AreOutOnce os → AreOutOnce (without os unit)
AreOutOnce-without [] unit a = tt
AreOutOnce-without (o ∷ os) unit a =
    elim (cases_Bool (same_unit unit o.unit)) [
      | inl t ↦ subst AreOutOnce (sym (without-here o os unit t)) a.1
      | inr f ↦ subst AreOutOnce (sym (without-there o os unit f)) (out_at-gone os unit o.unit a.0, AreOutOnce-without os unit a.1)
    ]

pub out_at-push : {A : Type 0} (os : List (Out A)) (o : Out A) → out_at os o.unit ≡ None → out_at (os ++ o ∷ []) o.unit ≡ Some o
out_at-push [] o e = out_at-here o [] o.unit (same_unit-refl o.unit)
out_at-push (k ∷ os) o e =
    elim (cases_Bool (same_unit o.unit k.unit)) [
      | inl t ↦ absurd (let s : None ≡ Some k = sym e ∙ out_at-here k os o.unit t in cc)
      | inr f ↦ out_at-there k (os ++ o ∷ []) o.unit f ∙ out_at-push os o (sym (out_at-there k os o.unit f) ∙ e)
    ]

pub out_at-push_other : {A : Type 0} (os : List (Out A)) (o : Out A) (unit : WorkUnit) → same_unit unit o.unit ≡ false
    → out_at (os ++ o ∷ []) unit ≡ out_at os unit
out_at-push_other [] o unit ne = out_at-there o [] unit ne
out_at-push_other (k ∷ os) o unit ne =
    elim (cases_Bool (same_unit unit k.unit)) [
      | inl t ↦ out_at-here k (os ++ o ∷ []) unit t ∙ sym (out_at-here k os unit t)
      | inr f ↦ out_at-there k (os ++ o ∷ []) unit f ∙ out_at-push_other os o unit ne ∙ sym (out_at-there k os unit f)
    ]

-- what is out stays so under one more
pub out_at-push_found : {A : Type 0} (os : List (Out A)) (new : Out A) (unit : WorkUnit) (o : Out A) → out_at os unit ≡ Some o
    → out_at (os ++ new ∷ []) unit ≡ Some o
out_at-push_found [] new unit o e = absurd (cc)
out_at-push_found (k ∷ os) new unit o e =
    elim (cases_Bool (same_unit unit k.unit)) [
      | inl t ↦ out_at-here k (os ++ new ∷ []) unit t ∙ sym (out_at-here k os unit t) ∙ e
      | inr f ↦ out_at-there k (os ++ new ∷ []) unit f ∙ out_at-push_found os new unit o (sym (out_at-there k os unit f) ∙ e)
    ]

pub AreOutOnce-push : {A : Type 0} (os : List (Out A)) (o : Out A) → AreOutOnce os → out_at os o.unit ≡ None → AreOutOnce (os ++ o ∷ [])
AreOutOnce-push [] o a e = (refl, tt)
AreOutOnce-push (k ∷ os) o a e =
    elim (cases_Bool (same_unit o.unit k.unit)) [
      | inl t ↦ absurd (let s : None ≡ Some k = sym e ∙ out_at-here k os o.unit t in cc)
      | inr f ↦ (
        out_at-push_other os o k.unit (same_unit-turned o.unit k.unit f) ∙ a.0,
        AreOutOnce-push os o a.1 (sym (out_at-there k os o.unit f) ∙ e),
      )
    ]

pub AreUpTo-refl : (v : Versions) → AreUpTo v v
AreUpTo-refl v = record { at = omega arith; exit = omega arith }

pub AreUpTo-trans : (u v w : Versions) → AreUpTo u v → AreUpTo v w → AreUpTo u w
AreUpTo-trans u v w s t = record { at = omega (arith, s.at, t.at); exit = omega (arith, s.exit, t.exit) }

pub versions-eq : (v w : Versions) → v.at ≡ w.at → v.exit ≡ w.exit → v ≡ w
versions-eq v w a e = let pair : ℕ → ℕ → Versions = λ x y. record { at = x; exit = y } in ap₂ pair a e

-- versions between two that are one
pub versions-between : (u v w : Versions) → AreUpTo u v → AreUpTo v w → w ≡ u → v ≡ u
versions-between u v w s t e =
    let a : w.at ≡ u.at = ap (λ x. x.at) e in let b : w.exit ≡ u.exit = ap (λ x. x.exit) e in
    versions-eq v u (omega (arith, s.at, t.at)) (omega (arith, s.exit, t.exit))

-- what rose since, or did not
pub up_to-unless_risen : (u v : Versions) → AreUpTo u v → (HasRisen u v → ⊥) → v ≡ u
up_to-unless_risen u v s n =
    versions-eq v u
    (let no : (u.at < v.at → ⊥) = λ h. n (inl h) in omega (arith, s.at))
    (let no : (u.exit < v.exit → ⊥) = λ h. n (inr h) in omega (arith, s.exit))

-- the versions of a unit never fall
pub versions_of-later : {A : Type 0} (hs ls : List (Held A)) (unit : WorkUnit) → AllStay hs ls
    → AreUpTo (versions_of hs unit) (versions_of ls unit)
versions_of-later hs ls (One node) s = record { at = version_of-later hs ls node s; exit = omega arith }
versions_of-later hs ls (Back node exit) s = record { at = version_of-later hs ls node s; exit = version_of-later hs ls exit s }

-- the inputs of a return whose nodes are there
pub inputs_of-found : {A : Type 0} (hs : List (Held A)) (node exit : Node) (h x : Held A) → held_at hs node ≡ Some h
    → held_at hs exit ≡ Some x
    → inputs_of hs (Back node exit) ≡ Some (h.state, Some x.state)
inputs_of-found {A = A} hs node exit h x e d =
    let both : Option (Held A) → Option (Held A) → Option (A × Option A) =
    λ at left. option_and_then (λ k. option_map (λ y. (k.state, Some y.state)) left) at in
    ap₂ both e d

back-by : {A : Type 0} (inputs : A × Option A) (at exit : Option (Held A))
    → option_and_then (λ h. option_map (λ x. (h.state, Some x.state)) exit) at ≡ Some inputs
    → (h : Held A) × (x : Held A) × (at ≡ Some h) × (exit ≡ Some x) × (inputs ≡ (h.state, Some x.state))
back-by inputs None exit e = absurd (cc)
back-by inputs (Some h) None e = absurd (cc)
back-by inputs (Some h) (Some x) e = (h, x, refl, refl, sym (same_Some (h.state, Some x.state) inputs e))

-- the nodes of a return whose inputs are there
pub inputs_of-back : {A : Type 0} (hs : List (Held A)) (node exit : Node) (inputs : A × Option A)
    → inputs_of hs (Back node exit) ≡ Some inputs
    → (h : Held A) × (x : Held A) × (held_at hs node ≡ Some h) × (held_at hs exit ≡ Some x) × (inputs ≡ (h.state, Some x.state))
inputs_of-back hs node exit inputs e = back-by inputs (held_at hs node) (held_at hs exit) e

-- inputs that are there stay there
pub inputs_of-later : {A : Type 0} (hs ls : List (Held A)) (unit : WorkUnit) (inputs : A × Option A) → AllStay hs ls
    → inputs_of hs unit ≡ Some inputs
    → (later : A × Option A) × (inputs_of ls unit ≡ Some later)
inputs_of-later hs ls (One node) inputs s e =
    let r = option_map-some (λ h. (h.state, None)) (held_at hs node) inputs e in
    let l = held_at-later hs ls node r.0 s r.1 in
    (((l.0).state, None), ap (λ o. option_map (λ h. (h.state, None)) o) l.1)
inputs_of-later hs ls (Back node exit) inputs s e =
    let r = inputs_of-back hs node exit inputs e in
    let l = held_at-later hs ls node r.0 s r.2 in
    let k = held_at-later hs ls exit r.1 s r.3 in
    (((l.0).state, Some (k.0).state), inputs_of-found ls node exit l.0 k.0 l.1 k.1)

-- and they are the same until one rises
pub inputs_of-same : {A : Type 0} (hs ls : List (Held A)) (unit : WorkUnit) (inputs : A × Option A) → AllStay hs ls
    → inputs_of hs unit ≡ Some inputs
    → versions_of ls unit ≡ versions_of hs unit → inputs_of ls unit ≡ Some inputs
inputs_of-same hs ls (One node) inputs s e v =
    let r = option_map-some (λ h. (h.state, None)) (held_at hs node) inputs e in
    let l = state-later hs ls node r.0 s r.1 (ap (λ x. x.at) v) in
    ap (λ o. option_map (λ h. (h.state, None)) o) l.1 ∙ ap (λ x. Some (x, None)) l.2 ∙ ap (λ x. Some x) r.2
inputs_of-same hs ls (Back node exit) inputs s e v =
    let r = inputs_of-back hs node exit inputs e in
    let l = state-later hs ls node r.0 s r.2 (ap (λ x. x.at) v) in
    let k = state-later hs ls exit r.1 s r.3 (ap (λ x. x.exit) v) in
    inputs_of-found ls node exit l.0 k.0 l.1 k.1 ∙ ap₂ (λ a b. Some (a, Some b)) l.2 k.2 ∙ ap (λ x. Some x) (sym r.4)

-- the work of a unit that was never done comes behind the others
pub with_done-new : {A : Type 0} (ds : List (Done A)) (new : Done A) → done_at ds new.unit ≡ None → with_done ds new ≡ ds ++ new ∷ []
with_done-new [] new e = refl
with_done-new (d ∷ ds) new e =
    elim (cases_Bool (same_unit new.unit d.unit)) [
      | inl t ↦ absurd (let s : None ≡ Some d = sym e ∙ done_at-here d ds new.unit t in cc)
      | inr f ↦ with_done-there d ds new f ∙ ap (λ l. d ∷ l) (with_done-new ds new (sym (done_at-there d ds new.unit f) ∙ e))
    ]
