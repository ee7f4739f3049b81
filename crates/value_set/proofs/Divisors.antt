-- Greatest common divisors.
use Rattle.std.proofs.Common.{◌≡◌, ℕ, ◌+◌, ◌%◌, ◌<◌, refl, ◌∙◌, arith}
use Prim.Native.Nat.{zero, suc, ◌∣◌}
use Rattle.std.specs.Int.{IsGcd}
use Rattle.std.proofs.lemmas.Nat.Gcd.{IsGcd-from_zero, IsGcd-from_mod}
use Rattle.std.proofs.lemmas.Nat.{mod_below}
use Rattle.value_set.specs.Gcd.{gcd, gcd_in}

-- more steps than needed change nothing
enough : (f g a b : ℕ) → b < f → b < g → gcd_in f a b ≡ gcd_in g a b
unfolding gcd_in
enough zero g a b h k = absurd (omega arith)
enough (suc f) zero a b h k = absurd (omega arith)
enough (suc f) (suc g) a zero h k = refl
enough (suc f) (suc g) a (suc b) h k =
    let less : a % suc b < suc b = mod_below a (suc b) (omega arith) in
    enough f g (suc b) (a % suc b) (omega arith) (omega arith)

pub gcd-zero : (a b : ℕ) → b ≡ 0 → gcd a b ≡ a
unfolding gcd gcd_in
gcd-zero a zero h = refl
gcd-zero a (suc b) h = absurd (omega arith)

pub gcd-step : (a b : ℕ) → 0 < b → gcd a b ≡ gcd b (a % b)
unfolding gcd gcd_in
gcd-step a zero h = absurd (omega arith)
gcd-step a (suc b) h =
    let less : a % suc b < suc b = mod_below a (suc b) (omega arith) in
    enough (suc b + 1) (suc (suc b)) a (suc b) (omega arith) (omega arith) ∙ enough (suc b) (a % suc b + 1) (suc b) (a % suc b) (omega arith) (omega arith)

gcd_in_is : (f a b : ℕ) → b < f → IsGcd a b (gcd_in f a b)
unfolding gcd_in
gcd_in_is zero a b h = absurd (omega arith)
gcd_in_is (suc f) a zero h = IsGcd-from_zero a 0 refl
gcd_in_is (suc f) a (suc b) h =
    let less : a % suc b < suc b = mod_below a (suc b) (omega arith) in
    IsGcd-from_mod a (suc b) _ (gcd_in_is f (suc b) (a % suc b) (omega arith))

pub gcd_is : (a b : ℕ) → IsGcd a b (gcd a b)
unfolding gcd
gcd_is a b = gcd_in_is (b + 1) a b (omega arith)

pub gcd_left : (a b : ℕ) → gcd a b ∣ a
gcd_left a b = (gcd_is a b).0

pub gcd_right : (a b : ℕ) → gcd a b ∣ b
gcd_right a b = (gcd_is a b).1
