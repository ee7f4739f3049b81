-- What instructions make of the accumulator and of CY, AC and OV (Intel, MCS-51 Programmer's Guide and Instruction Set,
-- "Instruction Definitions").
use Rattle.std.specs.Prelude.{ℕ, ◌+◌, ◌-◌, ◌*◌, ◌/◌, ◌%◌, not, nat_lt, nat_le, Bool, true, false, bit_and, bit_or, bit_xor}
use Rattle.chip_numbers.specs.Numbers.{shifted_right, shifted_left, exchanged, decimal_adjusted, adjusted_carry}
use Rattle.mcs51_decode.specs.declared.instr.Operation.{Operation}
use Rattle.mcs51_decode.specs.declared.instr.Operation.TheVariants.{Add, Addc, Orl, Anl, Xrl, Subb}
use Rattle.mcs51_decode.specs.declared.instr.Logic.{Logic}
use Rattle.mcs51_decode.specs.declared.instr.Logic.TheVariants as logic
use Rattle.mcs51_decode.specs.declared.instr.AccumulatorOperation.{AccumulatorOperation}
use Rattle.mcs51_decode.specs.declared.instr.AccumulatorOperation.TheVariants.{Rr, Rrc, Rl, Rlc, Swap, Da, Clr, Cpl}
use Rattle.mcs51_decode.specs.declared.instr.CarryOperation.{CarryOperation}
use Rattle.mcs51_decode.specs.declared.instr.CarryOperation.TheVariants as carry
use Rattle.mcs51_decode.specs.declared.instr.CarryByBit.{CarryByBit}
use Rattle.mcs51_decode.specs.declared.instr.CarryByBit.TheVariants as by_bit
use Rattle.mcs51_decode.specs.declared.instr.BitOperation.{BitOperation}
use Rattle.mcs51_decode.specs.declared.instr.BitOperation.TheVariants as bit
use Rattle.mcs51_chip.specs.declared.state.ChipState.{ChipState}
use Rattle.mcs51_chip.specs.Registers.{bit_of, carry_of, half_carry_of, with_accumulator, with_carry, with_flags}

-- SUMS AND DIFFERENCES

-- a carry out of the bits below a power of two, and a borrow into them: of 256 it is that of bit 7, of 128 that of bit 6
-- and of 16 that of bit 3
abbrev pub carries : (power x y c : ℕ) → Bool
carries power x y c = nat_le power (x % power + y % power + c)

abbrev pub borrows : (power x y c : ℕ) → Bool
borrows power x y c = nat_lt (x % power) (y % power + c)

-- OV: a carry out of bit 6 but not out of bit 7, or out of bit 7 but not out of bit 6; likewise a borrow
abbrev pub differ : Bool → Bool → Bool
differ true other = not other
differ false other = other

-- ADD and ADDC
abbrev pub added : (x c : ℕ) → ChipState → ChipState
added x c s = with_accumulator ((s.a + x + c) % 256)
    (with_flags (bit_of (carries 256 s.a x c)) (bit_of (carries 16 s.a x c)) (bit_of (differ (carries 256 s.a x c) (carries 128 s.a x c))) s)

-- SUBB
abbrev pub subtracted : (x c : ℕ) → ChipState → ChipState
subtracted x c s = with_accumulator ((s.a + 256 - x - c) % 256)
    (with_flags (bit_of (borrows 256 s.a x c)) (bit_of (borrows 16 s.a x c)) (bit_of (differ (borrows 256 s.a x c) (borrows 128 s.a x c))) s)

-- THE ACCUMULATOR AND A BYTE

-- with the carry as it was
abbrev pub accumulated : Operation → (x : ℕ) → ChipState → ChipState
accumulated Add x s = added x 0 s
accumulated Addc x s = added x (carry_of s) s
accumulated Subb x s = subtracted x (carry_of s) s
accumulated Orl x s = with_accumulator (bit_or s.a x) s
accumulated Anl x s = with_accumulator (bit_and s.a x) s
accumulated Xrl x s = with_accumulator (bit_xor s.a x) s

-- ORL, ANL and XRL of a direct byte
abbrev pub masked : Logic → (x mask : ℕ) → ℕ
masked logic.Orl x mask = bit_or x mask
masked logic.Anl x mask = bit_and x mask
masked logic.Xrl x mask = bit_xor x mask

-- THE ACCUMULATOR ALONE

-- RRC and RLC rotate through CY; DA sets CY and never clears it
abbrev pub changed : AccumulatorOperation → ChipState → ChipState
changed Rr s = with_accumulator (shifted_right 7 s.a (s.a % 2)) s
changed Rrc s = with_accumulator (shifted_right 7 s.a (carry_of s)) (with_carry (s.a % 2) s)
changed Rl s = with_accumulator (shifted_left 7 s.a (s.a / 128)) s
changed Rlc s = with_accumulator (shifted_left 7 s.a (carry_of s)) (with_carry (s.a / 128) s)
changed Swap s = with_accumulator (exchanged 16 s.a) s
changed Da s = with_accumulator (decimal_adjusted s.a (carry_of s) (half_carry_of s))
    (with_carry (bit_of (adjusted_carry s.a (carry_of s) (half_carry_of s))) s)
changed Clr s = with_accumulator 0 s
changed Cpl s = with_accumulator (255 - s.a) s

-- MUL AB: the low byte to A and the high byte to B; CY is cleared, and OV is set where the product exceeds 255
abbrev pub multiplied : ChipState → ChipState
multiplied s = record (with_flags 0 (half_carry_of s) (bit_of (nat_lt 255 (s.a * s.b))) s) { a = s.a * s.b % 256; b = s.a * s.b / 256 }

-- DIV AB: the quotient to A and the remainder to B; CY and OV are cleared
abbrev pub divided : ChipState → ChipState
divided s = record (with_flags 0 (half_carry_of s) 0 s) { a = s.a / s.b; b = s.a % s.b }

-- DIV AB where B is 0: A and B are any; CY is cleared and OV is set
abbrev pub divided_by_zero : (a b : ℕ) → ChipState → ChipState
divided_by_zero a b s = record (with_flags 0 (half_carry_of s) 1 s) { a = a; b = b }

-- BITS

abbrev pub carry_after : CarryOperation → (carry : ℕ) → ℕ
carry_after carry.Cpl c = 1 - c
carry_after carry.Clr c = 0
carry_after carry.Setb c = 1

-- CY behind an operation with a bit
abbrev pub carry_with : CarryByBit → (carry bit : ℕ) → ℕ
carry_with by_bit.Orl c b = bit_or c b
carry_with by_bit.Anl c b = bit_and c b
carry_with by_bit.OrlComplement c b = bit_or c (1 - b)
carry_with by_bit.AnlComplement c b = bit_and c (1 - b)
carry_with by_bit.Mov c b = b

-- a bit behind an operation
abbrev pub bit_after : BitOperation → (carry bit : ℕ) → ℕ
bit_after bit.MovCarry c b = c
bit_after bit.Cpl c b = 1 - b
bit_after bit.Clr c b = 0
bit_after bit.Setb c b = 1
