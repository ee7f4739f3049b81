-- The rules by which operations make numbers and set flags, as functions of two numbers and a carry (Intel, MCS-51
-- Programmer's Guide and Instruction Set, "Instruction Definitions").
use Rattle.std.specs.Prelude.{◌≡◌, ℕ, ◌+◌, ◌-◌, ◌*◌, ◌/◌, ◌%◌, ◌<◌, ◌==◌, ◌||◌, nat_lt, nat_le, if◌then◌else◌, Bool, true, false}
use Rattle.std.proofs.Common.{arith, refl}
use Rattle.std.proofs.Math.Nat.{mod-lt}
use Rattle.value_set.specs.Operations.{StaysBelow}
use Rattle.value_bits.specs.AllFlags.{Place}
use Rattle.value_bits.specs.AllFlags.Place.{First, Second, Third, Fourth}
use Rattle.chip_numbers.specs.Numbers.{adjusted_carry}
use Rattle.mcs51_chip.specs.Arithmetic.{carries, borrows, differ}
use Rattle.mcs51_chip.specs.NumberFacts.{product_below}
use Rattle.mcs51_results.specs.declared.combining.NumberRule.{NumberRule}
use Rattle.mcs51_results.specs.declared.combining.NumberRule.TheVariants.{CarrySum, CarryDifference, ProductLow, ProductHigh, Quotient, Remainder}
use Rattle.mcs51_results.specs.declared.flags.FlagRule.{FlagRule}
use Rattle.mcs51_results.specs.declared.flags.FlagRule.TheVariants as flag
use Rattle.mcs51_results.specs.declared.flags.ThreeFlags.{ThreeFlags}

-- NUMBERS

-- 512 is added to a difference so that it doesn't go below 0; of a divisor 0 the result is any number, and has no rule
abbrev pub answer_by : NumberRule → ℕ → ℕ → ℕ → ℕ
answer_by CarrySum x y z = (x + y + z) % 256
answer_by CarryDifference x y z = (x + 512 - y - z) % 256
answer_by ProductLow x y z = x * y % 256
answer_by ProductHigh x y z = x * y / 256
answer_by Quotient x y z = if y == 0 then 0 else x / y
answer_by Remainder x y z = if y == 0 then 0 else x % y

quotient_below : (x y : ℕ) (zero : Bool) → (y == 0) ≡ zero → x < 256 → (if zero then 0 else x / y) < 256
quotient_below x y true e h = omega arith
quotient_below x y false e h = grind (arith, e, h)

remainder_below : (x y : ℕ) (zero : Bool) → x < 256 → (if zero then 0 else x % y) < 256
remainder_below x y true h = omega arith
remainder_below x y false h = grind (arith, h)

pub answer_stays : (rule : NumberRule) → StaysBelow 256 (answer_by rule)
answer_stays CarrySum x y z h k l = mod-lt (x + y + z) {m = 256} (omega arith)
answer_stays CarryDifference x y z h k l = mod-lt (x + 512 - y - z) {m = 256} (omega arith)
answer_stays ProductLow x y z h k l = mod-lt (x * y) {m = 256} (omega arith)
answer_stays ProductHigh x y z h k l = product_below x y h k
answer_stays Quotient x y z h k l = quotient_below x y (y == 0) refl h
answer_stays Remainder x y z h k l = remainder_below x y (y == 0) h

-- FLAGS

-- CY, AC and OV of sums and of differences, of a number added to itself, the bits that rotations put into CY, CY behind DA,
-- and OV behind MUL and behind DIV
abbrev pub flag_by : FlagRule → ℕ → ℕ → ℕ → Bool
flag_by flag.Carry x y z = carries 256 x y z
flag_by flag.HalfCarry x y z = carries 16 x y z
flag_by flag.SumOverflow x y z = differ (carries 256 x y z) (carries 128 x y z)
flag_by flag.Borrow x y z = borrows 256 x y z
flag_by flag.HalfBorrow x y z = borrows 16 x y z
flag_by flag.DifferenceOverflow x y z = differ (borrows 256 x y z) (borrows 128 x y z)
flag_by flag.TwiceCarry x y z = carries 256 x x 0
flag_by flag.TwiceHalfCarry x y z = carries 16 x x 0
flag_by flag.TwiceOverflow x y z = differ (carries 256 x x 0) (carries 128 x x 0)
flag_by flag.LowestBit x y z = x % 2 == 1
flag_by flag.HighestBit x y z = x / 128 == 1
flag_by flag.Adjusted x y z = adjusted_carry x y z
flag_by flag.Exceeding x y z = nat_lt 255 (x * y)
flag_by flag.ByZero x y z = y == 0

-- three flags that one walk tells, by their places there
abbrev pub rule_at : Place → ThreeFlags → FlagRule
rule_at First flags = flags.carry
rule_at Second flags = flags.half
rule_at Third flags = flags.overflow
rule_at Fourth flags = flags.overflow

-- DA adds 60h
abbrev pub is_high_adjusted : (low carry : ℕ) → Bool
is_high_adjusted low carry = nat_lt 9 (low % 256 / 16) || (carry == 1) || nat_le 256 low
