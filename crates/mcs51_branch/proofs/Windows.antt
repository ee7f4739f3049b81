-- Which bytes lie in the windows of jumps.
use Rattle.std.proofs.Common.{◌≡◌, ℕ, ◌+◌, ◌-◌, ◌%◌, ◌<◌, ◌==◌, Bool, true, false, refl, arith}
use Rattle.std.specs.Prelude.{nat_lt, not}
use Rattle.std.proofs.lemmas.Bool.{cond_both}
use Rattle.std.proofs.lemmas.Bool.Decides.{nat_tests}
use Rattle.mcs51_branch.specs.declared.window.Window.{Window}
use Rattle.mcs51_branch.specs.Cuts.{IsInside, equality_window, order_window}

pub twice_not : (b : Bool) → not (not b) ≡ b
twice_not true = refl
twice_not false = refl

pub equality_low : (equal : Bool) (number : ℕ) → number < 256 → (equality_window equal number).low < 256
equality_low equal number small =
    cond_both equal (record { low = number; len = 1 }) (record { low = (number + 1) % 256; len = 255 }) (λ (window : Window). window.low < 256)
    (λ e. small) (λ e. omega arith)

pub order_low : (less : Bool) (bound : ℕ) → bound < 256 → (order_window less bound).low < 256
order_low less bound small =
    cond_both less (record { low = 0; len = bound }) (record { low = bound; len = 256 - bound }) (λ (window : Window). window.low < 256)
    (λ e. omega arith) (λ e. small)

equal_so : (v number : ℕ) → (v == number) ≡ true → v ≡ number
equal_so v number e = grind (arith, nat_tests, e)

other_so : (v number : ℕ) → (v == number) ≡ false → v ≡ number → ⊥
other_so v number e same = grind (arith, nat_tests, e, same)

-- the number alone has it, and all the others have any other byte
pub equality_inside : (v number : ℕ) → v < 256 → number < 256 → IsInside v (equality_window (v == number) number)
equality_inside v number below small =
    cond_both (v == number) (record { low = number; len = 1 }) (record { low = (number + 1) % 256; len = 255 }) (IsInside v)
    (λ e. let same = equal_so v number e in record { low = small; inside = omega (arith, same, below) })
    (λ e. let other = other_so v number e in record { low = omega arith; inside = omega (arith, other, below, small) })

less_so : (v bound : ℕ) → nat_lt v bound ≡ true → v < bound
less_so v bound e = grind (arith, nat_tests, e)

least_so : (v bound : ℕ) → nat_lt v bound ≡ false → v < bound → ⊥
least_so v bound e less = grind (arith, nat_tests, e, less)

-- the numbers below the bound have each byte that is less, and the others each other one
pub order_inside : (v bound : ℕ) → v < 256 → bound < 256 → IsInside v (order_window (nat_lt v bound) bound)
order_inside v bound below small =
    cond_both (nat_lt v bound) (record { low = 0; len = bound }) (record { low = bound; len = 256 - bound }) (IsInside v)
    (λ e. let less = less_so v bound e in record { low = omega arith; inside = omega (arith, less, below) })
    (λ e. let least = least_so v bound e in record { low = small; inside = omega (arith, least, below, small) })
