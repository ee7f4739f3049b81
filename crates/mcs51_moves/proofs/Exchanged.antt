-- XCH and XCHD.
use Rattle.std.proofs.Common.{◌≡◌, ℕ, ◌+◌, ◌*◌, ◌/◌, ◌%◌, ◌<◌, Bool, Option, List, ap₂, ◌∙◌, subst, arith}
use Rattle.std.specs.Prelude.{bit_and, bit_or}
use Rattle.std.proofs.lemmas.Nat.{and_mask, or_shifted}
use Rattle.std.proofs.lemmas.Nat.Bits.{and_high_mask}
use Rattle.choosing.specs.Gives.{Gives}
use Rattle.value_bits.specs.declared.tri.Logic.TheVariants.{And, Or}
use Rattle.value_bits.specs.Sets.{logic_set}
use Rattle.value_set.specs.declared.form.Form.{Form}
use Rattle.value_set.specs.Form.{Has, IsNormal}
use Rattle.value_set.specs.Summing.{single}
use Rattle.mcs51_decode.specs.declared.instr.Instr.TheVariants.{Exchange, ExchangeDigit}
use Rattle.mcs51_decode.specs.declared.instr.Memory.{Memory}
use Rattle.mcs51_decode.specs.declared.instr.Pointer.{Pointer}
use Rattle.mcs51_decode.specs.Fitting.{IsMemory}
use Rattle.mcs51_chip.specs.declared.state.ChipState.{ChipState}
use Rattle.mcs51_chip.specs.Memory.{address_of, address_reads}
use Rattle.mcs51_chip.specs.Step.{digit_exchanged_with, effect_of, exchanged_with}
use Rattle.mcs51_state.specs.FormFacts.{byte_form}
use Rattle.mcs51_state.specs.Forms.{IsKnown}
use Rattle.mcs51_state.specs.Known.{Known, byte_of}
use Rattle.mcs51_state.specs.Under.{IsUnder}
use Rattle.mcs51_state.specs.Operands.{addresses_of}
use Rattle.mcs51_state.specs.Showing.{address_accesses}
use Rattle.mcs51_state.specs.Following.{IsValue}
use Rattle.mcs51_state.specs.ValueFacts.{plain_value}
use Rattle.mcs51_state.specs.Doing.{DoesSo}
use Rattle.mcs51_state.specs.Accesses.{update_items}
use Rattle.mcs51_moves.specs.Moves.{byte_at, digit_exchanged, digits_joined, exchanged, pointed}
use Rattle.mcs51_results.specs.InstructionLaws.{InstructionLaws}
use Rattle.mcs51_moves.proofs.Written.{accumulator_value, both_form, both_lead, memory_placed, read_value}

-- XCH

pub exchange_so : (laws : InstructionLaws) (framed : Bool) (a : Known) (s : ChipState) (first : Option ChipState) (image : List (Option ℕ)) (pc : ℕ) (m : Memory)
    → IsUnder framed a s first → IsMemory m
    → Gives (DoesSo framed first (update_items pc a m) pc (exchanged framed m a) s) (effect_of image s (Exchange m))
unfolding exchanged effect_of
exchange_so laws framed a s first image pc m under is =
    let at = addresses_of a m in
    let address = address_of s m in
    let placed = memory_placed laws framed a s first m under is in
    laws.operands.formats.updating framed first (address_accesses pc a m) pc (exchanged framed m a) s (address_reads s m) at address (exchanged_with s address)
    (laws.operands.shown.address framed pc a s first under m) placed.stands placed.are
    (λ x may. both_lead laws framed a s first at address a.a (byte_at framed m a) s.a x under placed (accumulator_value framed a s first under)
    (read_value laws framed a s first at address x under placed may))

pub exchange_form : (laws : InstructionLaws) (framed : Bool) (a : Known) (m : Memory) → IsKnown framed a → IsMemory m
    → IsKnown framed (exchanged framed m a)
unfolding exchanged
exchange_form laws framed a m form is =
    let are = laws.operands.stands.operand_form framed a form m is in
    both_form laws framed a (addresses_of a m) a.a (byte_at framed m a) form are form.a (laws.operands.reads.form framed a form (addresses_of a m) are)

-- DIGITS

digits_so : (x y : ℕ) → x < 256 → bit_or (bit_and x 240) (bit_and y 15) ≡ x / 16 * 16 + y % 16
digits_so x y small =
    let high : bit_and x 240 ≡ x / 16 * 16 = and_high_mask 8 4 (omega arith) x small in
    let low : bit_and y 15 ≡ y % 16 = and_mask y 4 in
    ap₂ bit_or high low ∙ or_shifted (x / 16) 4 (y % 16) (omega arith)

joined_normal : (laws : InstructionLaws) (high low : Form) → IsNormal 256 high → IsNormal 256 low → IsNormal 256 (digits_joined high low)
joined_normal laws high low high_is low_is =
    laws.known.bits.logic_normal 8 Or (logic_set 8 And high (single 240)) (logic_set 8 And low (single 15))
    (laws.known.bits.logic_normal 8 And high (single 240) high_is (laws.known.sets.single 256 240 (omega arith)).0)
    (laws.known.bits.logic_normal 8 And low (single 15) low_is (laws.known.sets.single 256 15 (omega arith)).0)

joined_has : (laws : InstructionLaws) (high low : Form) (x y : ℕ) → IsNormal 256 high → IsNormal 256 low → Has 256 high x → Has 256 low y
    → Has 256 (digits_joined high low) (x / 16 * 16 + y % 16)
joined_has laws high low x y high_is low_is high_has low_has =
    let upper = laws.known.sets.single 256 240 (omega arith) in
    let lower = laws.known.sets.single 256 15 (omega arith) in
    subst (Has 256 (digits_joined high low)) (digits_so x y (laws.known.sets.below 256 x high high_is high_has))
    (laws.known.bits.logic 8 (bit_and x 240) (bit_and y 15) Or (logic_set 8 And high (single 240)) (logic_set 8 And low (single 15))
    (laws.known.bits.logic_normal 8 And high (single 240) high_is upper.0) (laws.known.bits.logic_normal 8 And low (single 15) low_is lower.0)
    (laws.known.bits.logic 8 x 240 And high (single 240) high_is upper.0 high_has upper.1) (laws.known.bits.logic 8 y 15 And low (single 15) low_is lower.0 low_has lower.1))

joined_value : (laws : InstructionLaws) (framed : Bool) (first : Option ChipState) (high low : Form) (x y : ℕ)
    → IsNormal 256 high → IsNormal 256 low → Has 256 high x → Has 256 low y
    → IsValue framed first (byte_of (digits_joined high low)) (x / 16 * 16 + y % 16)
joined_value laws framed first high low x y high_is low_is high_has low_has =
    plain_value framed first (digits_joined high low) (x / 16 * 16 + y % 16) (joined_normal laws high low high_is low_is) (joined_has laws high low x y high_is low_is high_has low_has)

-- XCHD

pub exchange_digit_so : (laws : InstructionLaws) (framed : Bool) (a : Known) (s : ChipState) (first : Option ChipState) (image : List (Option ℕ)) (pc : ℕ) (i : Pointer)
    → IsUnder framed a s first
    → Gives (DoesSo framed first (update_items pc a (pointed i)) pc (digit_exchanged framed i a) s) (effect_of image s (ExchangeDigit i))
unfolding digit_exchanged effect_of
exchange_digit_so laws framed a s first image pc i under =
    let m = pointed i in
    let at = addresses_of a m in
    let address = address_of s m in
    let byte = byte_at framed m a in
    let placed = memory_placed laws framed a s first m under tt in
    let a_normal = under.form.a.normal in
    let a_has = under.holds.parts.a.0 in
    laws.operands.formats.updating framed first (address_accesses pc a m) pc (digit_exchanged framed i a) s (address_reads s m) at address (digit_exchanged_with s address)
    (laws.operands.shown.address framed pc a s first under m) placed.stands placed.are
    (λ x may. let value = read_value laws framed a s first at address x under placed may in
    both_lead laws framed a s first at address (byte_of (digits_joined byte.set a.a.set)) (byte_of (digits_joined a.a.set byte.set)) (x / 16 * 16 + s.a % 16) (s.a / 16 * 16 + x % 16) under placed
    (joined_value laws framed first byte.set a.a.set x s.a value.form.normal a_normal value.holds.0 a_has)
    (joined_value laws framed first a.a.set byte.set s.a x a_normal value.form.normal a_has value.holds.0))

pub exchange_digit_form : (laws : InstructionLaws) (framed : Bool) (a : Known) (i : Pointer) → IsKnown framed a
    → IsKnown framed (digit_exchanged framed i a)
unfolding digit_exchanged
exchange_digit_form laws framed a i form =
    let m = pointed i in
    let byte = byte_at framed m a in
    let are = laws.operands.stands.operand_form framed a form m tt in
    let byte_is = (laws.operands.reads.form framed a form (addresses_of a m) are).normal in
    both_form laws framed a (addresses_of a m) (byte_of (digits_joined byte.set a.a.set)) (byte_of (digits_joined a.a.set byte.set)) form are
    (byte_form framed (digits_joined byte.set a.a.set) (joined_normal laws byte.set a.a.set byte_is form.a.normal))
    (byte_form framed (digits_joined a.a.set byte.set) (joined_normal laws a.a.set byte.set form.a.normal byte_is))
