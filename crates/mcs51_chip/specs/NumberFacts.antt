-- Results are bytes, and targets are addresses: lemmas, also for the proofs of crates above.
use Rattle.std.proofs.Common.{◌≡◌, ℕ, ◌+◌, ◌-◌, ◌*◌, ◌/◌, ◌%◌, ◌<◌, ◌==◌, Bool, true, false, nat_lt, zero, suc, bit_and, bit_or, bit_xor, arith}
use Rattle.std.proofs.lemmas.Nat.{and_le_l, or_lt, xor_lt}
use Rattle.std.proofs.lemmas.Nat.Bits.{bit_at-lt}
use Rattle.std.proofs.lemmas.Bool.{cond_both}
use Rattle.chip_numbers.specs.Numbers.{shifted_right, shifted_left, exchanged, decimal_adjusted}
use Rattle.mcs51_decode.specs.declared.instr.Logic.{Logic}
use Rattle.mcs51_decode.specs.declared.instr.Logic.TheVariants as logic
use Rattle.mcs51_decode.specs.declared.instr.CarryOperation.{CarryOperation}
use Rattle.mcs51_decode.specs.declared.instr.CarryOperation.TheVariants as carry
use Rattle.mcs51_decode.specs.declared.instr.CarryByBit.{CarryByBit}
use Rattle.mcs51_decode.specs.declared.instr.CarryByBit.TheVariants as by_bit
use Rattle.mcs51_decode.specs.declared.instr.BitOperation.{BitOperation}
use Rattle.mcs51_decode.specs.declared.instr.BitOperation.TheVariants as bit
use Rattle.mcs51_decode.specs.Targets.{relative_target, absolute_target}
use Rattle.mcs51_chip.specs.declared.state.ChipState.{ChipState}
use Rattle.mcs51_chip.specs.Arithmetic.{masked, carry_after, carry_with, bit_after}
use Rattle.mcs51_chip.specs.Registers.{bit_of, carry_of, parity, with_bit}

pub or_below : (x y : ℕ) → x < 256 → y < 256 → bit_or x y < 256
or_below x y h g = or_lt 8 x y h g

pub xor_below : (x y : ℕ) → x < 256 → y < 256 → bit_xor x y < 256
xor_below x y h g = xor_lt 8 x y h g

pub and_below : (x y bound : ℕ) → x < bound → bit_and x y < bound
and_below x y bound h = omega (arith, and_le_l x y, h)

pub masked_below : (operation : Logic) (x mask : ℕ) → x < 256 → mask < 256 → masked operation x mask < 256
masked_below logic.Orl x mask h g = or_below x mask h g
masked_below logic.Anl x mask h g = and_below x mask 256 h
masked_below logic.Xrl x mask h g = xor_below x mask h g

pub carry_below : (s : ChipState) → carry_of s < 2
carry_below s = bit_at-lt s.psw 7

pub flag_below : (flag : Bool) → bit_of flag < 2
flag_below true = omega arith
flag_below false = omega arith

pub parity_below : (a : ℕ) → parity a < 2
parity_below a = omega arith

pub carry_after_below : (operation : CarryOperation) (c : ℕ) → carry_after operation c < 2
carry_after_below carry.Cpl c = omega arith
carry_after_below carry.Clr c = omega arith
carry_after_below carry.Setb c = omega arith

pub carry_with_below : (operation : CarryByBit) (c b : ℕ) → c < 2 → b < 2 → carry_with operation c b < 2
carry_with_below by_bit.Orl c b h g = or_lt 1 c b h g
carry_with_below by_bit.Anl c b h g = and_below c b 2 h
carry_with_below by_bit.OrlComplement c b h g = or_lt 1 c (1 - b) h (omega arith)
carry_with_below by_bit.AnlComplement c b h g = and_below c (1 - b) 2 h
carry_with_below by_bit.Mov c b h g = g

pub bit_after_below : (operation : BitOperation) (c b : ℕ) → c < 2 → bit_after operation c b < 2
bit_after_below bit.MovCarry c b h = h
bit_after_below bit.Cpl c b h = omega arith
bit_after_below bit.Clr c b h = omega arith
bit_after_below bit.Setb c b h = omega arith

-- what holds of each of the eight places of a byte
pub of_eight : (P : ℕ → Type 0) → P 0 → P 1 → P 2 → P 3 → P 4 → P 5 → P 6 → P 7 → (n : ℕ) → n < 8 → P n
of_eight P a b c d e f g h zero low = a
of_eight P a b c d e f g h (suc zero) low = b
of_eight P a b c d e f g h (suc (suc zero)) low = c
of_eight P a b c d e f g h (suc (suc (suc zero))) low = d
of_eight P a b c d e f g h (suc (suc (suc (suc zero)))) low = e
of_eight P a b c d e f g h (suc (suc (suc (suc (suc zero))))) low = f
of_eight P a b c d e f g h (suc (suc (suc (suc (suc (suc zero)))))) low = g
of_eight P a b c d e f g h (suc (suc (suc (suc (suc (suc (suc zero))))))) low = h
of_eight P a b c d e f g h (suc (suc (suc (suc (suc (suc (suc (suc more)))))))) low = absurd (omega (arith, low))

pub bit_put : (x n b : ℕ) → n < 8 → x < 256 → b < 2 → with_bit x n b < 256
bit_put x n b low h g = of_eight (λ n. with_bit x n b < 256)
    (omega (arith, h, g)) (omega (arith, h, g)) (omega (arith, h, g)) (omega (arith, h, g))
    (omega (arith, h, g)) (omega (arith, h, g)) (omega (arith, h, g)) (omega (arith, h, g)) n low

pub with_bit_below : (x bit b : ℕ) → x < 256 → b < 2 → with_bit x (bit % 8) b < 256
with_bit_below x bit b h g = bit_put x (bit % 8) b (omega arith) h g

pub right_below : (x b : ℕ) → x < 256 → b < 2 → shifted_right 7 x b < 256
right_below x b h g = omega (arith, h, g)

pub left_below : (x b : ℕ) → b < 2 → shifted_left 7 x b < 256
left_below x b g = omega (arith, g)

pub exchanged_below : (x : ℕ) → x < 256 → exchanged 16 x < 256
exchanged_below x h = omega (arith, h)

pub adjusted_below : (a c half : ℕ) → decimal_adjusted a c half < 256
adjusted_below a c half = omega arith

pub product_below : (a b : ℕ) → a < 256 → b < 256 → a * b / 256 < 256
product_below a b h g = grind (arith, h, g)

pub quotient_below : (a b : ℕ) → a < 256 → (b == 0) ≡ false → a / b < 256
quotient_below a b h some = grind (arith, h, some)

pub remainder_below : (a b : ℕ) → a < 256 → a % b < 256
remainder_below a b h = grind (arith, h)

-- TARGETS

pub target_below : (next rel : ℕ) → relative_target next rel < 65536
target_below next rel =
    cond_both (nat_lt rel 128) ((next + rel) % 65536) ((next + rel + 65280) % 65536) (λ target. target < 65536) (λ e. omega arith) (λ e. omega arith)

pub absolute_below : (next target : ℕ) → next < 65536 → absolute_target next target < 65536
absolute_below next target h = omega (arith, h)
