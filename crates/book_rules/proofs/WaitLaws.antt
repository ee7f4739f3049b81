-- Frames that a work waits for.
use Rattle.std.specs.Prelude.{◌≡◌, ◌||◌, Bool, Contains, true, false, List, [], ◌∷◌}
use Rattle.std.specs.List.{list_any}
use Rattle.std.proofs.Common.{refl, sym, ◌∙◌, ap, subst, inl, inr}
use Rattle.std.proofs.lemmas.Bool.{cases_Bool}
use Rattle.call_context.specs.declared.node.Frame.{Frame}
use Rattle.plain_lemmas.specs.Members.{in_none, in_cons, in_first, in_rest}
use Rattle.book_rules.specs.Same.{same_frame}
use Rattle.book_rules.specs.SameTests.{same_frame-eq, same_frame-refl}

or_first : (x y : Bool) → x ≡ true → (x || y) ≡ true
or_first true y h = refl
or_first false y h = absurd (cc)

or_second : (x y : Bool) → y ≡ true → (x || y) ≡ true
or_second true y h = refl
or_second false y h = h

pub any_waits : (fs : List Frame) (f : Frame) → list_any (same_frame f) fs ≡ true → Contains fs f
any_waits [] f h = absurd (cc)
any_waits (x ∷ fs) f h = elim (cases_Bool (same_frame f x)) [
  | inl s ↦ subst (λ y. Contains (x ∷ fs) y) (sym (same_frame-eq f x s)) (in_first x fs)
  | inr s ↦ in_rest x fs f (any_waits fs f (sym (ap (λ b. b || list_any (same_frame f) fs) s) ∙ h))
]

pub waits_found : (fs : List Frame) (f : Frame) → Contains fs f → list_any (same_frame f) fs ≡ true
waits_found [] f h = absurd (in_none f h)
waits_found (x ∷ fs) f h = elim (in_cons x fs f h) [
  | inl same ↦ or_first (same_frame f x) (list_any (same_frame f) fs) (subst (λ y. same_frame f y ≡ true) (sym same) (same_frame-refl f))
  | inr rest ↦ or_second (same_frame f x) (list_any (same_frame f) fs) (waits_found fs f rest)
]
