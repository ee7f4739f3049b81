-- The two bytes on top of the stack, and the stack pointer.
use Rattle.std.proofs.Common.{ℕ, ◌+◌, ◌%◌, ◌<◌, Bool, Option, refl}
use Rattle.std.specs.Prelude.{slice_index}
use Rattle.std.specs.Option.{option_map}
use Rattle.entry_value.specs.Words.{HoldsOfByte}
use Rattle.mcs51_chip.specs.declared.place.Address.TheVariants.{InRam as AtRam}
use Rattle.mcs51_chip.specs.declared.state.ChipState.{ChipState}
use Rattle.mcs51_chip.specs.Memory.{popped, top_of}
use Rattle.mcs51_state.specs.Forms.{IsKnown}
use Rattle.mcs51_state.specs.Known.{Known}
use Rattle.mcs51_state.specs.Places.{suspended_of}
use Rattle.mcs51_state.specs.Standing.{AreAddresses, MayStandAt}
use Rattle.mcs51_state.specs.Under.{IsUnder}
use Rattle.mcs51_state.specs.Stack.{byte_popped, stack_top}
use Rattle.mcs51_state.specs.ValueFacts.{lowered_normal}
use Rattle.mcs51_results.specs.InstructionLaws.{InstructionLaws}
use Rattle.mcs51_control.specs.Returning.{below_top, high_byte, low_byte}

pub popped_under : (laws : InstructionLaws) (framed : Bool) (a : Known) (s : ChipState) (first : Option ChipState)
    → IsUnder framed a s first
    → IsUnder framed (byte_popped a) (popped s) first
popped_under laws framed a s first under = laws.stores.stack.pop framed first a s under

pub below_form : (laws : InstructionLaws) (framed : Bool) (a : Known) → IsKnown framed a → AreAddresses (below_top a)
below_form laws framed a form = lowered_normal laws.known a.sp form.sp

pub below_stands : (laws : InstructionLaws) (framed : Bool) (a : Known) (s : ChipState) (first : Option ChipState)
    → IsUnder framed a s first
    → MayStandAt (below_top a) (AtRam ((s.sp + 255) % 256))
below_stands laws framed a s first under = laws.stores.stack.top framed first (byte_popped a) (popped s) (popped_under laws framed a s first under)

-- the chip's two bytes
pub high_holds : (laws : InstructionLaws) (framed : Bool) (a : Known) (s : ChipState) (first : Option ChipState) → IsUnder framed a s first
    → HoldsOfByte (option_map suspended_of first) (high_byte framed a) (top_of s)
high_holds laws framed a s first under =
    laws.operands.reads.byte framed a s first under (stack_top a) (AtRam s.sp) (top_of s) (laws.stores.stack.top framed first a s under) (laws.stores.stack.top_form framed first a s under) refl

pub low_holds : (laws : InstructionLaws) (framed : Bool) (a : Known) (s : ChipState) (first : Option ChipState) → IsUnder framed a s first
    → HoldsOfByte (option_map suspended_of first) (low_byte framed a) (top_of (popped s))
low_holds laws framed a s first under =
    laws.operands.reads.byte framed a s first under (below_top a) (AtRam ((s.sp + 255) % 256)) (top_of (popped s)) (below_stands laws framed a s first under) (below_form laws framed a under.form) refl

pub byte_small : (framed : Bool) (a : Known) (s : ChipState) (first : Option ChipState) (at : ℕ)
    → IsUnder framed a s first → slice_index s.ram at < 256
byte_small framed a s first at under = under.holds.parts.cells.0 at
