-- Shifts to the left by one place: the sets of their results.
use Rattle.std.specs.Prelude.{◌≡◌, ℕ, ◌+◌, ◌%◌, ◌^◌, List, ◌∷◌, take, slice_index_or}
use Rattle.std.specs.Int.{bit_at}
use Rattle.value_set.specs.Summing.{single}
use Rattle.value_set.specs.declared.form.Form.{Form}
use Rattle.value_bits.specs.declared.tri.Tri.{Tri}
use Rattle.value_bits.specs.declared.tri.Tri.TheVariants.{Zero, One, Either}
use Rattle.value_bits.specs.declared.tri.Lowest.{Lowest}
use Rattle.value_bits.specs.declared.tri.Lowest.TheVariants.{High, Given}
use Rattle.chip_numbers.specs.Numbers.{shifted_left}
use Rattle.value_bits.specs.Bits.{IsBit, known_bits, from_bits}
use Rattle.value_bits.specs.Sets.{chosen, combine_or}

-- the bit that a shift of a number may put in at the lowest place
abbrev pub IsLowest : (place : ℕ) → Lowest → (x bit : ℕ) → Type 0
IsLowest place High x bit = bit ≡ bit_at x place
IsLowest place (Given given) x bit = IsBit given bit

-- the shift puts in one bit
abbrev pub IsOneLowest : Lowest → Type 0
IsOneLowest High = Unit {0}
IsOneLowest (Given Zero) = Unit {0}
IsOneLowest (Given One) = Unit {0}
IsOneLowest (Given Either) = ⊥

-- the bit as an operation on the number and a carry
abbrev pub lowest_answer : (place : ℕ) → Lowest → (x carry : ℕ) → ℕ
lowest_answer place High x carry = bit_at x place
lowest_answer place (Given given) x carry = carry % 2

abbrev pub left_answer : (place : ℕ) → Lowest → (x y carry : ℕ) → ℕ
left_answer place lowest x y carry = shifted_left place x (lowest_answer place lowest x carry)

-- what the carry may be
abbrev pub lowest_carry : Lowest → Form
lowest_carry High = single 0
lowest_carry (Given given) = chosen given

-- what is known of the bit, by the known bits of the number
abbrev pub lowest_bit : (place : ℕ) → Lowest → List Tri → Tri
lowest_bit place High bits = slice_index_or bits place Either
lowest_bit place (Given given) bits = given

-- the other bits move up one place, and the top one is lost
abbrev pub left_bits : (place : ℕ) → Lowest → List Tri → List Tri
left_bits place lowest bits = lowest_bit place lowest bits ∷ take place bits

-- the numbers shifted to the left by one place, whose top bit has this place
unfoldable pub left_set : (place : ℕ) → Form → Lowest → Form
left_set place set lowest =
    combine_or (2 ^ (place + 1)) (left_answer place lowest) set (single 0) (lowest_carry lowest) (from_bits (place + 1) (left_bits place lowest (known_bits (place + 1) set)))
