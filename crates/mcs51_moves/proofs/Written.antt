-- Operands, what is read there, and where writes lead.
use Rattle.std.proofs.Common.{ℕ, ◌<◌, Bool, Option}
use Rattle.choosing.specs.Gives.{Gives}
use Rattle.entry_value.specs.declared.byte.Byte.{Byte}
use Rattle.value_set.specs.Summing.{single}
use Rattle.mcs51_decode.specs.declared.instr.Memory.{Memory}
use Rattle.mcs51_decode.specs.Fitting.{IsMemory}
use Rattle.mcs51_chip.specs.declared.place.Address.{Address}
use Rattle.mcs51_chip.specs.declared.state.ChipState.{ChipState}
use Rattle.mcs51_chip.specs.Leading.{MayRead}
use Rattle.mcs51_chip.specs.Memory.{address_of, address_reads, direct_address, write}
use Rattle.mcs51_chip.specs.Registers.{with_accumulator}
use Rattle.mcs51_chip.specs.Step.{changing, writing}
use Rattle.mcs51_state.specs.declared.addresses.Addresses.{Addresses}
use Rattle.mcs51_state.specs.Forms.{IsByte, IsKnown}
use Rattle.mcs51_state.specs.Known.{Known, byte_of}
use Rattle.mcs51_state.specs.Standing.{AreAddresses, MayStandAt}
use Rattle.mcs51_state.specs.Under.{IsUnder}
use Rattle.mcs51_state.specs.Operands.{addresses_of, direct_addresses}
use Rattle.mcs51_state.specs.Accesses.{update_items, write_items}
use Rattle.mcs51_state.specs.Doing.{DoesSo, LeadsSo}
use Rattle.mcs51_state.specs.Reading.{read_byte}
use Rattle.mcs51_state.specs.Showing.{address_accesses}
use Rattle.mcs51_state.specs.Following.{IsValue}
use Rattle.mcs51_state.specs.ValueFacts.{plain_value}
use Rattle.mcs51_state.specs.Writing.{accumulator_written, byte_written}
use Rattle.mcs51_results.specs.InstructionLaws.{InstructionLaws}

-- OPERANDS

pub record IsPlaced (at : Addresses) (address : Address) : Type 0 where
  pub stands : MayStandAt at address
  pub are : AreAddresses at

pub memory_placed : (laws : InstructionLaws) (framed : Bool) (a : Known) (s : ChipState) (first : Option ChipState) (m : Memory)
    → IsUnder framed a s first
    → IsMemory m → IsPlaced (addresses_of a m) (address_of s m)
memory_placed laws framed a s first m under is = record { stands = laws.operands.stands.operand framed a s first under m; are = laws.operands.stands.operand_form framed a under.form m is }

pub direct_placed : (laws : InstructionLaws) (direct : ℕ) → direct < 256 → IsPlaced (direct_addresses direct) (direct_address direct)
direct_placed laws direct small = let both = laws.operands.stands.direct direct small in record { stands = both.0; are = both.1 }

-- VALUES

pub read_value : (laws : InstructionLaws) (framed : Bool) (a : Known) (s : ChipState) (first : Option ChipState) (at : Addresses) (address : Address) (x : ℕ)
    → IsUnder framed a s first → IsPlaced at address → MayRead s address x
    → IsValue framed first (read_byte framed a at) x
read_value laws framed a s first at address x under placed may = record {
  form = laws.operands.reads.form framed a under.form at placed.are;
  holds = laws.operands.reads.byte framed a s first under at address x placed.stands placed.are may;
}

pub accumulator_value : (framed : Bool) (a : Known) (s : ChipState) (first : Option ChipState)
    → IsUnder framed a s first → IsValue framed first a.a s.a
accumulator_value framed a s first under = record { form = under.form.a; holds = under.holds.parts.a }

pub number_value : (laws : InstructionLaws) (framed : Bool) (first : Option ChipState) (value : ℕ) → value < 256
    → IsValue framed first (byte_of (single value)) value
number_value laws framed first value small = let one = laws.known.sets.single 256 value small in plain_value framed first (single value) value one.0 one.1

pub value_small : (laws : InstructionLaws) (framed : Bool) (first : Option ChipState) (byte : Byte) (x : ℕ)
    → IsValue framed first byte x → x < 256
value_small laws framed first byte x value = laws.known.sets.below 256 x byte.set value.form.normal value.holds.0

-- WRITES

pub written_leads : (laws : InstructionLaws) (framed : Bool) (a : Known) (s : ChipState) (first : Option ChipState) (at : Addresses) (address : Address) (byte : Byte) (x : ℕ)
    → IsUnder framed a s first → IsPlaced at address
    → IsValue framed first byte x → LeadsSo framed first (byte_written framed at byte a) s (write address x s)
written_leads laws framed a s first at address byte x under placed value = record {
  onward = laws.operands.formats.write_keeps address x s;
  under = laws.stores.writes.byte framed first at address byte x value placed.are placed.stands a s under;
}

-- and then of the accumulator
pub both_lead : (laws : InstructionLaws) (framed : Bool) (a : Known) (s : ChipState) (first : Option ChipState) (at : Addresses) (address : Address) (byte held : Byte) (x y : ℕ)
    → IsUnder framed a s first → IsPlaced at address
    → IsValue framed first byte x → IsValue framed first held y
    → LeadsSo framed first (accumulator_written held (byte_written framed at byte a)) s (with_accumulator y (write address x s))
both_lead laws framed a s first at address byte held x y under placed value held_value =
    let one = written_leads laws framed a s first at address byte x under placed value in record {
      onward = one.onward;
      under = laws.stores.writes.accumulator framed first held y held_value (byte_written framed at byte a) (write address x s) one.under;
    }

pub both_form : (laws : InstructionLaws) (framed : Bool) (a : Known) (at : Addresses) (byte held : Byte)
    → IsKnown framed a → AreAddresses at → IsByte framed byte → IsByte framed held
    → IsKnown framed (accumulator_written held (byte_written framed at byte a))
both_form laws framed a at byte held form are is held_is =
    laws.stores.forms.accumulator framed held held_is (byte_written framed at byte a) (laws.stores.forms.byte framed at byte are is a form)

-- an operand is written
pub memory_form : (laws : InstructionLaws) (framed : Bool) (a : Known) (m : Memory) (byte : Byte) → IsKnown framed a
    → IsMemory m → IsByte framed byte
    → IsKnown framed (byte_written framed (addresses_of a m) byte a)
memory_form laws framed a m byte form is byte_is =
    laws.stores.forms.byte framed (addresses_of a m) byte (laws.operands.stands.operand_form framed a form m is) byte_is a form

pub write_does : (laws : InstructionLaws) (framed : Bool) (a : Known) (s : ChipState) (first : Option ChipState) (pc : ℕ) (m : Memory) (byte : Byte) (x : ℕ)
    → IsUnder framed a s first → IsMemory m → IsValue framed first byte x
    → Gives (DoesSo framed first (write_items pc a m) pc (byte_written framed (addresses_of a m) byte a) s) (writing s (address_reads s m) (address_of s m) x)
write_does laws framed a s first pc m byte x under is value =
    let at = addresses_of a m in
    let placed = memory_placed laws framed a s first m under is in
    laws.operands.formats.writing framed first (address_accesses pc a m) pc (byte_written framed at byte a) s (address_reads s m) at (address_of s m) x
    (laws.operands.shown.address framed pc a s first under m) placed.stands placed.are (written_leads laws framed a s first at (address_of s m) byte x under placed value)

-- and is changed
pub change_does : (laws : InstructionLaws) (framed : Bool) (a : Known) (s : ChipState) (first : Option ChipState) (pc : ℕ) (m : Memory) (change : ℕ → ℕ) (byte : Byte)
    → IsUnder framed a s first → IsMemory m
    → ((x : ℕ) → IsValue framed first (read_byte framed a (addresses_of a m)) x → IsValue framed first byte (change x))
    → Gives (DoesSo framed first (update_items pc a m) pc (byte_written framed (addresses_of a m) byte a) s) (changing s (address_reads s m) (address_of s m) change)
change_does laws framed a s first pc m change byte under is changed =
    let at = addresses_of a m in
    let address = address_of s m in
    let placed = memory_placed laws framed a s first m under is in
    laws.operands.formats.updating framed first (address_accesses pc a m) pc (byte_written framed at byte a) s (address_reads s m) at address (λ x. write address (change x) s)
    (laws.operands.shown.address framed pc a s first under m) placed.stands placed.are
    (λ x may. written_leads laws framed a s first at address byte (change x) under placed (changed x (read_value laws framed a s first at address x under placed may)))
