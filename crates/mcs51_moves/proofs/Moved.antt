-- INC, DEC and MOV.
use Rattle.std.proofs.Common.{ℕ, ◌+◌, ◌%◌, ◌<◌, Bool, Option, List}
use Rattle.std.specs.Option.{option_map}
use Rattle.choosing.specs.Gives.{Gives}
use Rattle.entry_value.specs.declared.byte.Byte.{Byte}
use Rattle.value_set.specs.Summing.{single}
use Rattle.mcs51_decode.specs.declared.instr.Instr.TheVariants.{Increment, Decrement, MoveImmediate, MoveToDirect, MoveFromDirect, Store}
use Rattle.mcs51_decode.specs.declared.instr.Memory.{Memory}
use Rattle.mcs51_decode.specs.declared.instr.Memory.TheVariants.{Working as InWorking}
use Rattle.mcs51_decode.specs.declared.instr.Place.TheVariants.{Memory as InMemory}
use Rattle.mcs51_decode.specs.declared.instr.Working.{Working}
use Rattle.mcs51_decode.specs.Fitting.{IsMemory}
use Rattle.mcs51_chip.specs.declared.state.ChipState.{ChipState}
use Rattle.mcs51_chip.specs.Memory.{address_of, address_reads, direct_address, pointer_reads, working_address}
use Rattle.mcs51_chip.specs.Step.{effect_of}
use Rattle.mcs51_state.specs.FormFacts.{byte_form}
use Rattle.mcs51_state.specs.Forms.{IsByte, IsKnown}
use Rattle.mcs51_state.specs.Known.{Known, byte_of}
use Rattle.mcs51_state.specs.Places.{suspended_of}
use Rattle.mcs51_state.specs.Under.{IsUnder}
use Rattle.mcs51_state.specs.Operands.{addresses_of, direct_addresses, working_addresses}
use Rattle.mcs51_state.specs.Reading.{read_byte}
use Rattle.mcs51_state.specs.Showing.{address_accesses, pointer_accesses}
use Rattle.mcs51_results.specs.Results.{decreased, increased}
use Rattle.mcs51_state.specs.Following.{IsValue}
use Rattle.mcs51_state.specs.Doing.{DoesSo}
use Rattle.mcs51_state.specs.Accesses.{update_items, write_items}
use Rattle.mcs51_moves.specs.Moves.{byte_at, decremented, from_direct_items, immediate_moved, incremented, moved_from_direct, moved_to_direct, stored, to_direct_items}
use Rattle.mcs51_results.specs.InstructionLaws.{InstructionLaws}
use Rattle.mcs51_moves.proofs.Written.{accumulator_value, change_does, direct_placed, memory_form, memory_placed, number_value, read_value, write_does, written_leads}

-- INC AND DEC

increased_value : (laws : InstructionLaws) (framed : Bool) (first : Option ChipState) (byte : Byte) (x : ℕ) → IsValue framed first byte x
    → IsValue framed first (increased byte) ((x + 1) % 256)
increased_value laws framed first byte x value = record {
  form = laws.results.changes.increased_form framed byte value.form;
  holds = laws.results.changes.increased framed (option_map suspended_of first) byte x value.form value.holds;
}

decreased_value : (laws : InstructionLaws) (framed : Bool) (first : Option ChipState) (byte : Byte) (x : ℕ) → IsValue framed first byte x
    → IsValue framed first (decreased byte) ((x + 255) % 256)
decreased_value laws framed first byte x value = record {
  form = laws.results.changes.decreased_form framed byte value.form;
  holds = laws.results.changes.decreased framed (option_map suspended_of first) byte x value.form value.holds;
}

pub increment_so : (laws : InstructionLaws) (framed : Bool) (a : Known) (s : ChipState) (first : Option ChipState) (image : List (Option ℕ)) (pc : ℕ) (m : Memory)
    → IsUnder framed a s first → IsMemory m
    → Gives (DoesSo framed first (update_items pc a m) pc (incremented framed m a) s) (effect_of image s (Increment (InMemory m)))
unfolding incremented effect_of
increment_so laws framed a s first image pc m under is =
    change_does laws framed a s first pc m (λ x. (x + 1) % 256) (increased (byte_at framed m a)) under is (increased_value laws framed first (byte_at framed m a))

pub decrement_so : (laws : InstructionLaws) (framed : Bool) (a : Known) (s : ChipState) (first : Option ChipState) (image : List (Option ℕ)) (pc : ℕ) (m : Memory)
    → IsUnder framed a s first → IsMemory m
    → Gives (DoesSo framed first (update_items pc a m) pc (decremented framed m a) s) (effect_of image s (Decrement (InMemory m)))
unfolding decremented effect_of
decrement_so laws framed a s first image pc m under is =
    change_does laws framed a s first pc m (λ x. (x + 255) % 256) (decreased (byte_at framed m a)) under is (decreased_value laws framed first (byte_at framed m a))

-- a byte that is read at an operand
read_form : (laws : InstructionLaws) (framed : Bool) (a : Known) (m : Memory) → IsKnown framed a → IsMemory m
    → IsByte framed (byte_at framed m a)
read_form laws framed a m form is = laws.operands.reads.form framed a form (addresses_of a m) (laws.operands.stands.operand_form framed a form m is)

pub increment_form : (laws : InstructionLaws) (framed : Bool) (a : Known) (m : Memory) → IsKnown framed a → IsMemory m
    → IsKnown framed (incremented framed m a)
unfolding incremented
increment_form laws framed a m form is =
    memory_form laws framed a m (increased (byte_at framed m a)) form is (laws.results.changes.increased_form framed (byte_at framed m a) (read_form laws framed a m form is))

pub decrement_form : (laws : InstructionLaws) (framed : Bool) (a : Known) (m : Memory) → IsKnown framed a → IsMemory m
    → IsKnown framed (decremented framed m a)
unfolding decremented
decrement_form laws framed a m form is =
    memory_form laws framed a m (decreased (byte_at framed m a)) form is (laws.results.changes.decreased_form framed (byte_at framed m a) (read_form laws framed a m form is))

-- MOV OF A NUMBER AND OF A

pub immediate_so : (laws : InstructionLaws) (framed : Bool) (a : Known) (s : ChipState) (first : Option ChipState) (image : List (Option ℕ)) (pc : ℕ) (m : Memory) (value : ℕ)
    → IsUnder framed a s first → IsMemory m → value < 256
    → Gives (DoesSo framed first (write_items pc a m) pc (immediate_moved framed m value a) s) (effect_of image s (MoveImmediate (InMemory m) value))
unfolding immediate_moved effect_of
immediate_so laws framed a s first image pc m value under is small =
    write_does laws framed a s first pc m (byte_of (single value)) value under is (number_value laws framed first value small)

pub immediate_form : (laws : InstructionLaws) (framed : Bool) (a : Known) (m : Memory) (value : ℕ) → IsKnown framed a
    → IsMemory m → value < 256
    → IsKnown framed (immediate_moved framed m value a)
unfolding immediate_moved
immediate_form laws framed a m value form is small =
    memory_form laws framed a m (byte_of (single value)) form is (byte_form framed (single value) (laws.known.sets.single 256 value small).0)

pub store_so : (laws : InstructionLaws) (framed : Bool) (a : Known) (s : ChipState) (first : Option ChipState) (image : List (Option ℕ)) (pc : ℕ) (m : Memory)
    → IsUnder framed a s first → IsMemory m
    → Gives (DoesSo framed first (write_items pc a m) pc (stored framed m a) s) (effect_of image s (Store m))
unfolding stored effect_of
store_so laws framed a s first image pc m under is = write_does laws framed a s first pc m a.a s.a under is (accumulator_value framed a s first under)

pub store_form : (laws : InstructionLaws) (framed : Bool) (a : Known) (m : Memory) → IsKnown framed a → IsMemory m
    → IsKnown framed (stored framed m a)
unfolding stored
store_form laws framed a m form is = memory_form laws framed a m a.a form is form.a

-- MOV TO AND FROM A DIRECT BYTE

pub to_direct_so : (laws : InstructionLaws) (framed : Bool) (a : Known) (s : ChipState) (first : Option ChipState) (image : List (Option ℕ)) (pc to : ℕ) (from : Memory)
    → IsUnder framed a s first → to < 256 → IsMemory from
    → Gives (DoesSo framed first (to_direct_items pc a to from) pc (moved_to_direct framed to from a) s) (effect_of image s (MoveToDirect to from))
unfolding moved_to_direct effect_of
to_direct_so laws framed a s first image pc to from under small is =
    let at = addresses_of a from in
    let address = address_of s from in
    let source = memory_placed laws framed a s first from under is in
    let target = direct_placed laws to small in
    laws.operands.formats.moving framed first (address_accesses pc a from) pc (moved_to_direct framed to from a) s (address_reads s from) at (direct_addresses to) address (direct_address to)
    (laws.operands.shown.address framed pc a s first under from) source.stands source.are target.stands target.are
    (λ x may. written_leads laws framed a s first (direct_addresses to) (direct_address to) (byte_at framed from a) x under target (read_value laws framed a s first at address x under source may))

pub to_direct_form : (laws : InstructionLaws) (framed : Bool) (a : Known) (to : ℕ) (from : Memory) → IsKnown framed a
    → to < 256 → IsMemory from
    → IsKnown framed (moved_to_direct framed to from a)
unfolding moved_to_direct
to_direct_form laws framed a to from form small is =
    laws.stores.forms.byte framed (direct_addresses to) (byte_at framed from a) (direct_placed laws to small).are (read_form laws framed a from form is) a form

pub from_direct_so : (laws : InstructionLaws) (framed : Bool) (a : Known) (s : ChipState) (first : Option ChipState) (image : List (Option ℕ)) (pc : ℕ) (to : Working) (from : ℕ)
    → IsUnder framed a s first → from < 256
    → Gives (DoesSo framed first (from_direct_items pc a to from) pc (moved_from_direct framed to from a) s) (effect_of image s (MoveFromDirect to from))
unfolding moved_from_direct effect_of
from_direct_so laws framed a s first image pc to from under small =
    let at = working_addresses a to in
    let address = working_address s to in
    let source = direct_placed laws from small in
    let target = memory_placed laws framed a s first (InWorking to) under tt in
    laws.operands.formats.moving framed first (pointer_accesses pc a to) pc (moved_from_direct framed to from a) s (pointer_reads s to) (direct_addresses from) at (direct_address from) address
    (laws.operands.shown.address framed pc a s first under (InWorking to)) source.stands source.are target.stands target.are
    (λ x may. written_leads laws framed a s first at address (read_byte framed a (direct_addresses from)) x under target (read_value laws framed a s first (direct_addresses from) (direct_address from) x under source may))

pub from_direct_form : (laws : InstructionLaws) (framed : Bool) (a : Known) (to : Working) (from : ℕ) → IsKnown framed a
    → from < 256 → IsKnown framed (moved_from_direct framed to from a)
unfolding moved_from_direct
from_direct_form laws framed a to from form small =
    memory_form laws framed a (InWorking to) (read_byte framed a (direct_addresses from)) form tt
    (laws.operands.reads.form framed a form (direct_addresses from) (direct_placed laws from small).are)
