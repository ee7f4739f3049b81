-- A code and what it stands for name each other.
use Rattle.std.proofs.Common.{◌≡◌, ℕ, ◌<◌, ◌≤◌, ◌==◌, ◌||◌, nat_lt, Bool, inl, inr, refl, arith}
use Rattle.std.proofs.lemmas.Bool.{eqb-true, ltb-true, or_cases}
use Rattle.plain_lemmas.specs.Below.{below_passes}
use Rattle.msp430_decode.specs.declared.instr.Register.{Register}
use Rattle.msp430_decode.specs.declared.instr.Register.TheVariants.{Pc, Sp, Sr, R3, R4, R5, R6, R7, R8, R9, R10, R11, R12, R13, R14, R15}
use Rattle.msp430_decode.specs.declared.instr.Operation.{Operation}
use Rattle.msp430_decode.specs.declared.instr.Operation.TheVariants.{Mov, Add, Addc, Subc, Sub, Cmp, Dadd, Bit, Bic, Bis, Xor, And}
use Rattle.msp430_decode.specs.declared.instr.SingleOperation.{SingleOperation}
use Rattle.msp430_decode.specs.declared.instr.SingleOperation.TheVariants.{Rrc, Swpb, Rra, Sxt, Push, Call}
use Rattle.msp430_decode.specs.declared.instr.Condition.{Condition}
use Rattle.msp430_decode.specs.declared.instr.Condition.TheVariants.{NotEqual, Equal, NoCarry, Carry, Negative, GreaterOrEqual, Less, Always}
use Rattle.msp430_decode.specs.declared.instr.Width.{Width}
use Rattle.msp430_decode.specs.declared.instr.Width.TheVariants.{Word, Byte}
use Rattle.msp430_decode.specs.Codes.{number, register_at, operation_code, operation_at, single_code, single_at, condition_code, condition_at, width_code, width_at}

pub number_again : (x : Register) → register_at (number x) ≡ x
number_again Pc = refl
number_again Sp = refl
number_again Sr = refl
number_again R3 = refl
number_again R4 = refl
number_again R5 = refl
number_again R6 = refl
number_again R7 = refl
number_again R8 = refl
number_again R9 = refl
number_again R10 = refl
number_again R11 = refl
number_again R12 = refl
number_again R13 = refl
number_again R14 = refl
number_again R15 = refl

pub number_below : (x : Register) → (0 ≤ number x) × (number x < 16)
number_below Pc = (omega arith, omega arith)
number_below Sp = (omega arith, omega arith)
number_below Sr = (omega arith, omega arith)
number_below R3 = (omega arith, omega arith)
number_below R4 = (omega arith, omega arith)
number_below R5 = (omega arith, omega arith)
number_below R6 = (omega arith, omega arith)
number_below R7 = (omega arith, omega arith)
number_below R8 = (omega arith, omega arith)
number_below R9 = (omega arith, omega arith)
number_below R10 = (omega arith, omega arith)
number_below R11 = (omega arith, omega arith)
number_below R12 = (omega arith, omega arith)
number_below R13 = (omega arith, omega arith)
number_below R14 = (omega arith, omega arith)
number_below R15 = (omega arith, omega arith)

pub number_of_at : (n : ℕ) → n < 16 → number (register_at n) ≡ n
number_of_at n high = eqb-true (number (register_at n)) n (below_passes (λ k. number (register_at k) == k) 16 n refl high)

pub operation_again : (x : Operation) → operation_at (operation_code x) ≡ x
operation_again Mov = refl
operation_again Add = refl
operation_again Addc = refl
operation_again Subc = refl
operation_again Sub = refl
operation_again Cmp = refl
operation_again Dadd = refl
operation_again Bit = refl
operation_again Bic = refl
operation_again Bis = refl
operation_again Xor = refl
operation_again And = refl

pub operation_below : (x : Operation) → (4 ≤ operation_code x) × (operation_code x < 16)
operation_below Mov = (omega arith, omega arith)
operation_below Add = (omega arith, omega arith)
operation_below Addc = (omega arith, omega arith)
operation_below Subc = (omega arith, omega arith)
operation_below Sub = (omega arith, omega arith)
operation_below Cmp = (omega arith, omega arith)
operation_below Dadd = (omega arith, omega arith)
operation_below Bit = (omega arith, omega arith)
operation_below Bic = (omega arith, omega arith)
operation_below Bis = (omega arith, omega arith)
operation_below Xor = (omega arith, omega arith)
operation_below And = (omega arith, omega arith)

pub operation_of_at : (n : ℕ) → 4 ≤ n → n < 16 → operation_code (operation_at n) ≡ n
operation_of_at n low high =
    let test : ℕ → Bool = λ k. nat_lt k 4 || (operation_code (operation_at k) == k) in
    elim (or_cases (nat_lt n 4) (operation_code (operation_at n) == n) (below_passes test 16 n refl high)) [
      | inl less ↦ absurd (omega (arith, ltb-true n 4 less))
      | inr same ↦ eqb-true (operation_code (operation_at n)) n same
    ]

pub single_again : (x : SingleOperation) → single_at (single_code x) ≡ x
single_again Rrc = refl
single_again Swpb = refl
single_again Rra = refl
single_again Sxt = refl
single_again Push = refl
single_again Call = refl

pub single_below : (x : SingleOperation) → (0 ≤ single_code x) × (single_code x < 6)
single_below Rrc = (omega arith, omega arith)
single_below Swpb = (omega arith, omega arith)
single_below Rra = (omega arith, omega arith)
single_below Sxt = (omega arith, omega arith)
single_below Push = (omega arith, omega arith)
single_below Call = (omega arith, omega arith)

pub single_of_at : (n : ℕ) → n < 6 → single_code (single_at n) ≡ n
single_of_at n high = eqb-true (single_code (single_at n)) n (below_passes (λ k. single_code (single_at k) == k) 6 n refl high)

pub condition_again : (x : Condition) → condition_at (condition_code x) ≡ x
condition_again NotEqual = refl
condition_again Equal = refl
condition_again NoCarry = refl
condition_again Carry = refl
condition_again Negative = refl
condition_again GreaterOrEqual = refl
condition_again Less = refl
condition_again Always = refl

pub condition_below : (x : Condition) → (0 ≤ condition_code x) × (condition_code x < 8)
condition_below NotEqual = (omega arith, omega arith)
condition_below Equal = (omega arith, omega arith)
condition_below NoCarry = (omega arith, omega arith)
condition_below Carry = (omega arith, omega arith)
condition_below Negative = (omega arith, omega arith)
condition_below GreaterOrEqual = (omega arith, omega arith)
condition_below Less = (omega arith, omega arith)
condition_below Always = (omega arith, omega arith)

pub condition_of_at : (n : ℕ) → n < 8 → condition_code (condition_at n) ≡ n
condition_of_at n high = eqb-true (condition_code (condition_at n)) n (below_passes (λ k. condition_code (condition_at k) == k) 8 n refl high)

pub width_again : (x : Width) → width_at (width_code x) ≡ x
width_again Word = refl
width_again Byte = refl

pub width_below : (x : Width) → (0 ≤ width_code x) × (width_code x < 2)
width_below Word = (omega arith, omega arith)
width_below Byte = (omega arith, omega arith)

pub width_of_at : (n : ℕ) → n < 2 → width_code (width_at n) ≡ n
width_of_at n high = eqb-true (width_code (width_at n)) n (below_passes (λ k. width_code (width_at k) == k) 2 n refl high)
