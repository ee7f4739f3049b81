-- Results stay below the numbers of their width.
use Rattle.std.proofs.Common.{ℕ, ◌/◌, ◌^◌, ◌<◌, Bool, true, false, Option, None, Some, bit_and, bit_or, bit_xor, arith}
use Prim.Native.Nat.{zero, suc}
use Rattle.std.specs.Int.{bit_at}
use Rattle.std.proofs.Math.Nat.{pow-suc}
use Rattle.std.proofs.lemmas.Nat.{and_le_l, or_lt, xor_lt}
use Rattle.chip_numbers.specs.Numbers.{decimal_digits, decimal_sum, decimal_total, shifted_right}
use Rattle.msp430_decode.specs.declared.instr.Width.{Width}
use Rattle.msp430_decode.specs.declared.instr.Width.TheVariants.{Word, Byte}
use Rattle.msp430_decode.specs.declared.instr.Source.{Source}
use Rattle.msp430_decode.specs.declared.instr.Operation.{Operation}
use Rattle.msp430_decode.specs.declared.instr.Operation.TheVariants.{Mov, Add, Addc, Subc, Sub, Cmp, Dadd, Bit, Bic, Bis, Xor, And}
use Rattle.msp430_decode.specs.declared.instr.SingleOperation.{SingleOperation}
use Rattle.msp430_decode.specs.declared.instr.SingleOperation.TheVariants.{Rrc, Swpb, Rra, Sxt, Push, Call}
use Rattle.msp430_decode.specs.Table.{AreSingle}
use Rattle.msp430_chip.specs.declared.place.Flags.{Flags}
use Rattle.msp430_chip.specs.Arithmetic.{Made, modulus, digits_of, top_place, complement, sum, decimal, result_of, rotated, single_result, bit_from, with_flags, with_made_flags}
use Rattle.choosing.specs.Gives.{Gives, answer_gives, ask_gives, either_gives, then_gives}

-- a result of this width
abbrev pub Fits : Width → Made → Type 0
Fits width made = made.0 < modulus width

pub modulus_some : (width : Width) → 0 < modulus width
modulus_some Word = omega arith
modulus_some Byte = omega arith

sum_fits : (width : Width) (x y carry : ℕ) → Fits width (sum width x y carry)
unfolding sum
sum_fits Word x y carry = omega arith
sum_fits Byte x y carry = omega arith

or_fits : (width : Width) (x y : ℕ) → x < modulus width → y < modulus width → bit_or x y < modulus width
or_fits Word x y h k = or_lt 16 x y h k
or_fits Byte x y h k = or_lt 8 x y h k

xor_fits : (width : Width) (x y : ℕ) → x < modulus width → y < modulus width → bit_xor x y < modulus width
xor_fits Word x y h k = xor_lt 16 x y h k
xor_fits Byte x y h k = xor_lt 8 x y h k

and_fits : (width : Width) (x y : ℕ) → x < modulus width → bit_and x y < modulus width
and_fits width x y h = omega (arith, and_le_l x y)

digits_below : (digits n : ℕ) → decimal_digits digits n < 16 ^ digits
unfolding decimal_digits
digits_below zero n = omega arith
digits_below (suc digits) n = let rest = digits_below digits (n / 10) in let p = pow-suc 16 digits in omega (arith, rest, p)

decimal_fits : (width : Width) (x y carry : ℕ) → decimal_sum (digits_of width) x y carry < modulus width
decimal_fits Word x y carry = digits_below 4 (decimal_total 4 x y carry)
decimal_fits Byte x y carry = digits_below 2 (decimal_total 2 x y carry)

decimal_gives : (width : Width) (x y carry : ℕ) → Gives (Fits width) (decimal width x y carry)
unfolding decimal
decimal_gives width x y carry = either_gives (Fits width) _ _ _
    (then_gives (λ (o : ℕ). o < 2) (Fits width) _ _ (ask_gives 2 (omega arith)) (λ overflow o. answer_gives (Fits width) _ (decimal_fits width x y carry)))
    (then_gives (λ (r : ℕ). r < modulus width) (Fits width) _ _ (ask_gives (modulus width) (modulus_some width)) (λ result r.
    then_gives (λ (o : ℕ). o < 16) (Fits width) _ _ (ask_gives 16 (omega arith)) (λ option o. answer_gives (Fits width) _ r)))

pub result_gives : (operation : Operation) (width : Width) (x y carry : ℕ) → x < modulus width → y < modulus width
    → Gives (Fits width) (result_of operation width x y carry)
result_gives Mov width x y carry h k = answer_gives (Fits width) _ h
result_gives Add width x y carry h k = answer_gives (Fits width) _ (sum_fits width y x 0)
result_gives Addc width x y carry h k = answer_gives (Fits width) _ (sum_fits width y x carry)
result_gives Subc width x y carry h k = answer_gives (Fits width) _ (sum_fits width y (complement width x) carry)
result_gives Sub width x y carry h k = answer_gives (Fits width) _ (sum_fits width y (complement width x) 1)
result_gives Cmp width x y carry h k = answer_gives (Fits width) _ (sum_fits width y (complement width x) 1)
result_gives Dadd width x y carry h k = decimal_gives width y x carry
result_gives Bit width x y carry h k = answer_gives (Fits width) _ (and_fits width y x k)
result_gives Bic width x y carry h k = answer_gives (Fits width) _ (and_fits width y (complement width x) k)
result_gives Bis width x y carry h k = answer_gives (Fits width) _ (or_fits width y x k h)
result_gives Xor width x y carry h k = answer_gives (Fits width) _ (xor_fits width y x k h)
result_gives And width x y carry h k = answer_gives (Fits width) _ (and_fits width y x k)

shifted_fits : (width : Width) (x bit : ℕ) → x < modulus width → bit < 2 → shifted_right (top_place width) x bit < modulus width
shifted_fits Word x bit h k = omega arith
shifted_fits Byte x bit h k = omega arith

rotated_gives : (width : Width) (x carry : ℕ) → x < modulus width → carry < 2 → Gives (Fits width) (rotated width x carry)
unfolding rotated
rotated_gives width x carry h k = then_gives (λ (o : ℕ). o < 2) (Fits width) _ _ (ask_gives 2 (omega arith)) (λ overflow o. answer_gives (Fits width) _ (shifted_fits width x carry h k))

pub single_gives : (operation : SingleOperation) (width : Width) (operand : Source) (x carry : ℕ)
    → AreSingle operation width operand → x < modulus width → carry < 2
    → Gives (Fits width) (single_result operation width x carry)
single_gives Rrc width operand x carry are h k = rotated_gives width x carry h k
single_gives Swpb Word operand x carry are h k = answer_gives (Fits Word) _ (omega arith)
single_gives Swpb Byte operand x carry are h k = absurd are.0
single_gives Rra width operand x carry are h k = answer_gives (Fits width) _ (shifted_fits width x (bit_at x (top_place width)) h (omega arith))
single_gives Sxt Word operand x carry are h k = answer_gives (Fits Word) _ (omega arith)
single_gives Sxt Byte operand x carry are h k = absurd are.0
single_gives Push width operand x carry are h k = answer_gives (Fits width) _ h
single_gives Call width operand x carry are h k = answer_gives (Fits width) _ h

-- ---- SR with flags

bit_below : (flag : Bool) → bit_from flag < 2
bit_below true = omega arith
bit_below false = omega arith

with_flags_below : (status : ℕ) (flags : Flags) → with_flags status flags < 512
with_flags_below status flags =
    let c = bit_below flags.carry in let z = bit_below flags.zero in let n = bit_below flags.negative in let v = bit_below flags.overflow in
    omega (arith, c, z, n, v)

pub made_flags_below : (status : ℕ) (flags : Option Flags) → status < 512 → with_made_flags status flags < 512
made_flags_below status None h = h
made_flags_below status (Some flags) h = with_flags_below status flags
