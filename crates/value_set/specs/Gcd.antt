-- The greatest common divisor, by Euclid's algorithm. Of 0 and x it is x.
use Rattle.std.specs.Prelude.{ℕ, ◌+◌, ◌%◌}
use Prim.Native.Nat.{zero, suc}

-- within a number of steps
unfoldable pub gcd_in : ℕ → ℕ → ℕ → ℕ
gcd_in zero a b = a
gcd_in (suc steps) a zero = a
gcd_in (suc steps) a (suc b) = gcd_in steps (suc b) (a % suc b)

unfoldable pub gcd : ℕ → ℕ → ℕ
gcd a b = gcd_in (b + 1) a b
