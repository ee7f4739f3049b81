-- The rules by which operations set flags, as functions of two numbers and a carry.
use Rattle.std.specs.Prelude.{ℕ, Bool, bit_and}
use Rattle.std.proofs.Common.{arith}
use Rattle.std.proofs.lemmas.Nat.{and_le_l}
use Rattle.value_set.specs.Operations.{StaysBelow}
use Rattle.value_bits.specs.AllFlags.{Place}
use Rattle.value_bits.specs.AllFlags.Place.{First, Second, Third, Fourth}
use Rattle.chip_numbers.specs.Numbers.{sign_extended}
use Rattle.msp430_decode.specs.declared.instr.Width.{Width}
use Rattle.msp430_chip.specs.declared.place.Flags.{Flags}
use Rattle.msp430_chip.specs.Arithmetic.{modulus, complement, sum, logic, exclusive}
use Rattle.msp430_results.specs.declared.flags.FlagRule.{FlagRule}
use Rattle.msp430_results.specs.declared.flags.FlagRule.TheVariants.{Sum, SumCarry, DifferenceCarry, Difference, Twice, Decimal, And, Xor, Rotated, Halved, Extended}
use Rattle.msp430_results.specs.Results.{flags_in, clear_answer, decimal_flags, rotated_flags, halved_flags}

abbrev pub flags_by : FlagRule → Width → ℕ → ℕ → ℕ → Flags
flags_by Sum width x y z = flags_in (sum width x y 0)
flags_by SumCarry width x y z = flags_in (sum width x y z)
flags_by DifferenceCarry width x y z = flags_in (sum width x (complement width y) z)
flags_by Difference width x y z = flags_in (sum width x (complement width y) 1)
flags_by Twice width x y z = flags_in (sum width x x 0)
flags_by Decimal width x y z = decimal_flags width x y z
flags_by And width x y z = flags_in (logic width (bit_and x y))
flags_by Xor width x y z = flags_in (exclusive width x y)
flags_by Rotated width x y z = rotated_flags width x y z
flags_by Halved width x y z = halved_flags width x y z
flags_by Extended width x y z = flags_in (logic width (sign_extended x))

-- the flags by their places
abbrev pub flag_of : Place → Flags → Bool
flag_of First flags = flags.carry
flag_of Second flags = flags.zero
flag_of Third flags = flags.negative
flag_of Fourth flags = flags.overflow

pub clear_stays : (width : Width) → StaysBelow (modulus width) (clear_answer width)
clear_stays width x y z h k l = let small = and_le_l x (complement width y) in omega (arith, small)
