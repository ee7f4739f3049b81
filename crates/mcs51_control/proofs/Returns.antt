-- Behind RET and RETI.
use Rattle.std.proofs.Common.{◌+◌, ◌%◌, ◌<◌, Bool, Option, subst, arith}
use Rattle.value_bits.specs.Sets.{pair_set}
use Rattle.value_set.specs.Form.{Has, IsNormal}
use Rattle.mcs51_chip.specs.declared.state.ChipState.{ChipState}
use Rattle.mcs51_chip.specs.Interrupts.{level_ended}
use Rattle.mcs51_chip.specs.Memory.{popped, popped_address, top_of}
use Rattle.mcs51_chip.specs.Step.{returned}
use Rattle.mcs51_state.specs.Forms.{IsKnown}
use Rattle.mcs51_state.specs.Known.{Known}
use Rattle.mcs51_state.specs.Under.{IsUnder}
use Rattle.mcs51_state.specs.Stack.{byte_popped, stack_top}
use Rattle.mcs51_results.specs.InstructionLaws.{InstructionLaws}
use Rattle.mcs51_control.specs.Returning.{below_top, high_byte, interrupt_returned, low_byte, return_targets, returned_known}
use Rattle.mcs51_control.proofs.Levels.{ended_form, ended_under}
use Rattle.mcs51_control.proofs.Tops.{below_form, byte_small, high_holds, low_holds, popped_under}

pub returned_so : (laws : InstructionLaws) (framed : Bool) (a : Known) (s : ChipState) (first : Option ChipState) → IsUnder framed a s first
    → IsUnder framed (returned_known a) (returned s) first
returned_so laws framed a s first under =
    let one = popped_under laws framed a s first under in
    let two = popped_under laws framed (byte_popped a) (popped s) first one in
    let high : top_of s < 256 = byte_small framed a s first s.sp under in
    let low : top_of (popped s) < 256 = byte_small framed a s first ((s.sp + 255) % 256) under in
    laws.stores.writes.counter framed first (popped_address s) (omega (arith, high, low)) (returned_known a) (popped (popped s)) two

pub interrupt_so : (laws : InstructionLaws) (framed : Bool) (a : Known) (s : ChipState) (first : Option ChipState)
    → IsUnder framed a s first
    → IsUnder framed (interrupt_returned a) (level_ended (returned s)) first
interrupt_so laws framed a s first under = ended_under framed (returned_known a) (returned s) first (returned_so laws framed a s first under)

pub target_so : (laws : InstructionLaws) (framed : Bool) (a : Known) (s : ChipState) (first : Option ChipState) → IsUnder framed a s first
    → Has 65536 (return_targets framed a) (returned s).pc
unfolding return_targets
target_so laws framed a s first under =
    let low_form = (laws.operands.reads.form framed a under.form (below_top a) (below_form laws framed a under.form)).normal in
    let high_form = (laws.operands.reads.form framed a under.form (stack_top a) (laws.stores.stack.top_form framed first a s under)).normal in
    let pair = laws.known.bits.pair (top_of (popped s)) (top_of s) (low_byte framed a).set (high_byte framed a).set low_form high_form (low_holds laws framed a s first under).0 (high_holds laws framed a s first under).0 in
    subst (Has 65536 (pair_set (low_byte framed a).set (high_byte framed a).set)) (omega arith) pair

pub targets_so : (laws : InstructionLaws) (framed : Bool) (a : Known) → IsKnown framed a → IsNormal 65536 (return_targets framed a)
unfolding return_targets
targets_so laws framed a form =
    laws.known.bits.pair_normal (low_byte framed a).set (high_byte framed a).set (laws.operands.reads.form framed a form (below_top a) (below_form laws framed a form)).normal (laws.operands.reads.form framed a form (stack_top a) form.sp).normal

pub returned_form : (laws : InstructionLaws) (framed : Bool) (a : Known) → IsKnown framed a → IsKnown framed (returned_known a)
returned_form laws framed a form = laws.stores.forms.pop framed (byte_popped a) (laws.stores.forms.pop framed a form)

pub interrupt_form : (laws : InstructionLaws) (framed : Bool) (a : Known) → IsKnown framed a → IsKnown framed (interrupt_returned a)
interrupt_form laws framed a form = ended_form framed (returned_known a) (returned_form laws framed a form)
