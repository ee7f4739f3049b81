-- What instructions make of numbers, and the flags that they set (SLAU049, chapter 3, "Instruction Set").
use Rattle.std.specs.Prelude.{ℕ, ◌+◌, ◌-◌, ◌*◌, ◌/◌, ◌%◌, ◌==◌, ◌&&◌, ◌||◌, not, nat_le, if◌then◌else◌, Bool, true, false, Option, None, Some, bit_and, bit_or, bit_xor}
use Rattle.std.specs.Int.{bit_at}
use Rattle.chip_numbers.specs.Numbers.{shifted_right, exchanged, sign_extended, is_decimal, decimal_sum, decimal_carry}
use Rattle.msp430_decode.specs.declared.instr.Width.{Width}
use Rattle.msp430_decode.specs.declared.instr.Width.TheVariants.{Word, Byte}
use Rattle.msp430_decode.specs.declared.instr.Operation.{Operation}
use Rattle.msp430_decode.specs.declared.instr.Operation.TheVariants.{Mov, Add, Addc, Subc, Sub, Cmp, Dadd, Bit, Bic, Bis, Xor, And}
use Rattle.msp430_decode.specs.declared.instr.SingleOperation.{SingleOperation}
use Rattle.msp430_decode.specs.declared.instr.SingleOperation.TheVariants.{Rrc, Swpb, Rra, Sxt, Push, Call}
use Rattle.msp430_chip.specs.declared.place.Flags.{Flags}
use Rattle.choosing.specs.Asking.{Asking, answer, ask, and_then}

-- a result, and the flags that it sets, if it sets any
abbrev pub Made : Type 0
Made = ℕ × Option Flags

abbrev pub modulus : Width → ℕ
modulus Word = 65536
modulus Byte = 256

abbrev pub digits_of : Width → ℕ
digits_of Word = 4
digits_of Byte = 2

abbrev pub top_place : Width → ℕ
top_place Word = 15
top_place Byte = 7

-- the top bit is set
abbrev pub is_negative : Width → ℕ → Bool
is_negative Word x = nat_le 32768 x
is_negative Byte x = nat_le 128 x

-- each bit is the other one
abbrev pub complement : Width → ℕ → ℕ
complement width x = modulus width - 1 - x

-- Z and N are those of the result
abbrev pub flags_of : Width → ℕ → (carry overflow : Bool) → Flags
flags_of width result carry overflow =
    record { carry = carry; zero = result == 0; negative = is_negative width result; overflow = overflow }

abbrev pub made : Width → ℕ → (carry overflow : Bool) → Made
made width result carry overflow = (result, Some (flags_of width result carry overflow))

-- two positive numbers give a negative one, or two negative ones a positive one
abbrev pub overflows : (x y result : Bool) → Bool
overflows x y result = (x && y && not result) || (not x && not y && result)

abbrev pub sum_with : Width → (x y total : ℕ) → Made
sum_with width x y total =
    made width (total % modulus width) (nat_le (modulus width) total)
    (overflows (is_negative width x) (is_negative width y) (is_negative width (total % modulus width)))

-- ADD and ADDC; SUB, SUBC and CMP add the complement of the source, and 1 or C
unfoldable pub sum : Width → (x y carry : ℕ) → Made
sum width x y carry = sum_with width x y (x + y + carry)

-- AND, BIT and SXT: C is the opposite of Z
abbrev pub logic : Width → ℕ → Made
logic width result = made width result (not (result == 0)) false

-- XOR: V is set where both operands are negative
abbrev pub exclusive : Width → (x y : ℕ) → Made
exclusive width x y = let result = bit_xor x y in
    made width result (not (result == 0)) (is_negative width x && is_negative width y)

-- free flags: C, Z, N and V are the bits of the option, from the lowest up
abbrev pub any_flags : ℕ → Flags
any_flags option = record {
  carry = option % 2 == 1;
  zero = option / 2 % 2 == 1;
  negative = option / 4 % 2 == 1;
  overflow = option / 8 % 2 == 1;
}

-- DADD of decimal numbers leaves V free; with a digit above 9 the result and the flags are free
unfoldable pub decimal : Width → (x y carry : ℕ) → Asking Made
decimal width x y carry choices = let digits = digits_of width in
    if is_decimal digits x && is_decimal digits y then
    and_then (ask 2) (λ overflow. answer (made width (decimal_sum digits x y carry) (decimal_carry digits x y carry) (overflow == 1))) choices
    else and_then (ask (modulus width)) (λ result. and_then (ask 16) (λ option. answer (result, Some (any_flags option)))) choices

-- the result of an instruction on two operands, with C as it was
abbrev pub result_of : Operation → Width → (source destination carry : ℕ) → Asking Made
result_of Mov width s d carry = answer (s, None)
result_of Add width s d carry = answer (sum width d s 0)
result_of Addc width s d carry = answer (sum width d s carry)
result_of Subc width s d carry = answer (sum width d (complement width s) carry)
result_of Sub width s d carry = answer (sum width d (complement width s) 1)
result_of Cmp width s d carry = answer (sum width d (complement width s) 1)
result_of Dadd width s d carry = decimal width d s carry
result_of Bit width s d carry = answer (logic width (bit_and d s))
result_of Bic width s d carry = answer (bit_and d (complement width s), None)
result_of Bis width s d carry = answer (bit_or d s, None)
result_of Xor width s d carry = answer (exclusive width d s)
result_of And width s d carry = answer (logic width (bit_and d s))

-- RRC leaves V free
unfoldable pub rotated : Width → (x carry : ℕ) → Asking Made
rotated width x carry =
    and_then (ask 2) (λ overflow. answer (made width (shifted_right (top_place width) x carry) (x % 2 == 1) (overflow == 1)))

-- the result of an instruction on one operand; PUSH and CALL have none
abbrev pub single_result : SingleOperation → Width → (x carry : ℕ) → Asking Made
single_result Rrc width x carry = rotated width x carry
single_result Swpb width x carry = answer (exchanged 256 x, None)
single_result Rra width x carry = answer (made width (shifted_right (top_place width) x (bit_at x (top_place width))) (x % 2 == 1) false)
single_result Sxt width x carry = answer (logic width (sign_extended x))
single_result Push width x carry = answer (x, None)
single_result Call width x carry = answer (x, None)

-- MOV, BIC, BIS and SWPB leave the flags as they are
abbrev pub sets_flags : Operation → Bool
sets_flags Mov = false
sets_flags Bic = false
sets_flags Bis = false
sets_flags other = true

abbrev pub single_sets_flags : SingleOperation → Bool
single_sets_flags Rrc = true
single_sets_flags Rra = true
single_sets_flags Sxt = true
single_sets_flags other = false

-- CMP and BIT leave their destination as it is
abbrev pub writes_result : Operation → Bool
writes_result Cmp = false
writes_result Bit = false
writes_result other = true

-- MOV doesn't read its destination
abbrev pub reads_destination : Operation → Bool
reads_destination Mov = false
reads_destination other = true

abbrev pub bit_from : Bool → ℕ
bit_from flag = if flag then 1 else 0

-- SR with these flags; its bits 3 to 7 stay
abbrev pub with_flags : ℕ → Flags → ℕ
with_flags status flags =
    bit_from flags.carry + 2 * bit_from flags.zero + 4 * bit_from flags.negative + 8 * (status / 8 % 32) + 256 * bit_from flags.overflow

abbrev pub with_made_flags : ℕ → Option Flags → ℕ
with_made_flags status None = status
with_made_flags status (Some flags) = with_flags status flags
