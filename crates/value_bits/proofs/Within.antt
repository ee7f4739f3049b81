-- Members of sets, and which numbers they are below.
use Rattle.std.proofs.Common.{◌≡◌, ℕ, ◌+◌, ◌*◌, ◌%◌, ◌<◌, List, [], ◌∷◌, sym, subst, inl, inr, arith}
use Rattle.std.specs.List.{Contains}
use Rattle.std.proofs.Math.Nat.{mod-lt}
use Rattle.value_set.specs.declared.form.Form.{Form}
use Rattle.value_set.specs.declared.form.Form.TheVariants.{Values, Run}
use Rattle.value_set.specs.Form.{Has, IsNormal, Ascends, steps}
use Rattle.value_set.specs.ListFacts.{IsIn, in_from_Contains}
use Rattle.value_set.specs.StepFacts.{steps_from, steps_have}

pub ascends_below : (low m v : ℕ) (xs : List ℕ) → Ascends low m xs → IsIn v xs → v < m
ascends_below low m v [] a h = absurd h
ascends_below low m v (x ∷ xs) a (inl e) = omega (arith, a.1, e)
ascends_below low m v (x ∷ xs) a (inr h) = ascends_below (x + 1) m v xs a.2 h

pub steps_has : (m base stride count v i : ℕ) → i < count → v ≡ (base + i * stride) % m → Contains (steps m base stride count) v
steps_has m base stride count v i below is = subst (λ (n : ℕ). Contains (steps m base stride count) n) (sym is) (steps_have m base stride count i below)

pub member_below : (m v : ℕ) (set : Form) → 0 < m → IsNormal m set → Has m set v → v < m
member_below m v (Values xs) pos n h = ascends_below 0 m v xs n.2 (in_from_Contains xs v h)
member_below m v (Run p) pos n h = let found = steps_from m p.base p.stride p.count v h in let low = mod-lt (p.base + found.0 * p.stride) {m = m} pos in omega (arith, low, found.2)
