-- Rows of the definitions: sums of decimal numbers, and the two examples of DA in the MCS-51 instruction set.
use Rattle.std.proofs.Common.{◌≡◌, true, false, refl}
use Rattle.chip_numbers.specs.Numbers.{decimal_value, decimal_digits, decimal_sum, decimal_carry, decimal_adjusted, adjusted_carry}

-- 1234 + 5678 is 6912
sum_without_carry : (decimal_sum 4 0x1234 0x5678 0 ≡ 0x6912) × (decimal_carry 4 0x1234 0x5678 0 ≡ false)
unfolding decimal_value decimal_digits
sum_without_carry = (refl, refl)

-- 99 + 1 is 100
sum_with_carry : (decimal_sum 2 0x99 0x00 1 ≡ 0x00) × (decimal_carry 2 0x99 0x00 1 ≡ true)
unfolding decimal_value decimal_digits
sum_with_carry = (refl, refl)

-- 56 + 67 + 1 is 124
first_adjusted : (decimal_adjusted 0xBE 0 0 ≡ 0x24) × (adjusted_carry 0xBE 0 0 ≡ true)
first_adjusted = (refl, refl)

-- 30 + 99 is 129
second_adjusted : (decimal_adjusted 0xC9 0 0 ≡ 0x29) × (adjusted_carry 0xC9 0 0 ≡ true)
second_adjusted = (refl, refl)

-- 45 stays, and a carry that was set stays set
kept : (decimal_adjusted 0x45 0 0 ≡ 0x45) × (adjusted_carry 0x45 0 0 ≡ false) × (adjusted_carry 0x20 1 0 ≡ true)
kept = (refl, refl, refl)
