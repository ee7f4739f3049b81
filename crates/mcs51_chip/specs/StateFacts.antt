-- Registers, flags and results that are written keep the form of a state: lemmas, also for the proofs of crates above.
use Rattle.std.proofs.Common.{◌≡◌, ℕ, ◌-◌, ◌/◌, ◌%◌, ◌<◌, ◌==◌, false, arith}
use Rattle.std.proofs.lemmas.Nat.Bits.{bit_at-lt}
use Rattle.mcs51_decode.specs.declared.instr.Operation.{Operation}
use Rattle.mcs51_decode.specs.declared.instr.Operation.TheVariants.{Add, Addc, Orl, Anl, Xrl, Subb}
use Rattle.mcs51_decode.specs.declared.instr.AccumulatorOperation.{AccumulatorOperation}
use Rattle.mcs51_decode.specs.declared.instr.AccumulatorOperation.TheVariants.{Rr, Rrc, Rl, Rlc, Swap, Da, Clr, Cpl}
use Rattle.mcs51_chip.specs.declared.state.ChipState.{ChipState}
use Rattle.mcs51_chip.specs.Arithmetic.{added, subtracted, accumulated, changed, multiplied, divided, divided_by_zero}
use Rattle.mcs51_chip.specs.NumberFacts.{or_below, xor_below, and_below, carry_below, flag_below, right_below, left_below, exchanged_below, adjusted_below, product_below, quotient_below, remainder_below}
use Rattle.mcs51_chip.specs.Registers.{carry_of, half_carry_of, with_accumulator, with_carry, with_flags}
use Rattle.mcs51_chip.specs.State.{IsChipState}
use Rattle.mcs51_chip.specs.Step.{going_to}

-- REGISTERS AND FLAGS

pub set_pc : (s : ChipState) (x : ℕ) → IsChipState s → x < 65536 → IsChipState (going_to x s)
set_pc s x is h = grind (arith, is, h)

pub set_a : (s : ChipState) (x : ℕ) → IsChipState s → x < 256 → IsChipState (with_accumulator x s)
set_a s x is h = grind (arith, is, h)

pub set_ab : (s : ChipState) (x y : ℕ) → IsChipState s → x < 256 → y < 256 → IsChipState (record s { a = x; b = y })
set_ab s x y is h g = grind (arith, is, h, g)

pub set_psw : (s : ChipState) (x : ℕ) → IsChipState s → x < 256 → x % 4 ≡ 0 → IsChipState (record s { psw = x })
set_psw s x is h held = grind (arith, is, h, held)

pub carry_kept : (s : ChipState) (c : ℕ) → IsChipState s → c < 2 → IsChipState (with_carry c s)
carry_kept s c is h = set_psw s _ is (omega (arith, h)) (omega (arith, is.psw_held))

pub flags_kept : (s : ChipState) (c half overflow : ℕ) → IsChipState s → c < 2 → half < 2 → overflow < 2
    → IsChipState (with_flags c half overflow s)
flags_kept s c half overflow is h g o = set_psw s _ is (omega (arith, h, g, o)) (omega arith)

-- RESULTS

added_kept : (s : ChipState) (x c : ℕ) → IsChipState s → IsChipState (added x c s)
added_kept s x c is = set_a _ _ (flags_kept s _ _ _ is (flag_below _) (flag_below _) (flag_below _)) (omega arith)

subtracted_kept : (s : ChipState) (x c : ℕ) → IsChipState s → IsChipState (subtracted x c s)
subtracted_kept s x c is = set_a _ _ (flags_kept s _ _ _ is (flag_below _) (flag_below _) (flag_below _)) (omega arith)

pub accumulated_kept : (s : ChipState) (operation : Operation) (x : ℕ) → IsChipState s → x < 256 → IsChipState (accumulated operation x s)
accumulated_kept s Add x is h = added_kept s x 0 is
accumulated_kept s Addc x is h = added_kept s x (carry_of s) is
accumulated_kept s Subb x is h = subtracted_kept s x (carry_of s) is
accumulated_kept s Orl x is h = set_a s _ is (or_below s.a x is.a h)
accumulated_kept s Anl x is h = set_a s _ is (and_below s.a x 256 is.a)
accumulated_kept s Xrl x is h = set_a s _ is (xor_below s.a x is.a h)

low_bit : (x : ℕ) → x % 2 < 2
low_bit x = omega arith

top_bit : (x : ℕ) → x < 256 → x / 128 < 2
top_bit x h = omega (arith, h)

pub changed_kept : (s : ChipState) (operation : AccumulatorOperation) → IsChipState s → IsChipState (changed operation s)
changed_kept s Rr is = set_a s _ is (right_below s.a (s.a % 2) is.a (low_bit s.a))
changed_kept s Rrc is = set_a _ _ (carry_kept s _ is (low_bit s.a)) (right_below s.a (carry_of s) is.a (carry_below s))
changed_kept s Rl is = set_a s _ is (left_below s.a (s.a / 128) (top_bit s.a is.a))
changed_kept s Rlc is = set_a _ _ (carry_kept s _ is (top_bit s.a is.a)) (left_below s.a (carry_of s) (carry_below s))
changed_kept s Swap is = set_a s _ is (exchanged_below s.a is.a)
changed_kept s Da is = set_a _ _ (carry_kept s _ is (flag_below _)) (adjusted_below s.a (carry_of s) (half_carry_of s))
changed_kept s Clr is = set_a s 0 is (omega arith)
changed_kept s Cpl is = set_a s (255 - s.a) is (omega arith)

cleared_flags : (s : ChipState) (overflow : ℕ) → IsChipState s → overflow < 2 → IsChipState (with_flags 0 (half_carry_of s) overflow s)
cleared_flags s overflow is h = flags_kept s 0 (half_carry_of s) overflow is (omega arith) (bit_at-lt s.psw 6) h

pub multiplied_kept : (s : ChipState) → IsChipState s → IsChipState (multiplied s)
multiplied_kept s is = set_ab _ _ _ (cleared_flags s _ is (flag_below _)) (omega arith) (product_below s.a s.b is.a is.b)

pub divided_kept : (s : ChipState) → IsChipState s → (s.b == 0) ≡ false → IsChipState (divided s)
divided_kept s is some = set_ab _ _ _ (cleared_flags s 0 is (omega arith)) (quotient_below s.a s.b is.a some) (remainder_below s.a s.b is.a)

pub zero_kept : (s : ChipState) (a b : ℕ) → IsChipState s → a < 256 → b < 256 → IsChipState (divided_by_zero a b s)
zero_kept s a b is h g = set_ab _ a b (cleared_flags s 1 is (omega arith)) h g
