-- Bytes that hold of a number.
use Rattle.std.proofs.Common.{ℕ, ◌<◌, Bool, Option, arith}
use Rattle.mcs51_chip.specs.declared.place.Address.{Address}
use Rattle.mcs51_chip.specs.declared.state.ChipState.{ChipState}
use Rattle.mcs51_chip.specs.Leading.{MayRead}
use Rattle.mcs51_state.specs.declared.addresses.Addresses.{Addresses}
use Rattle.mcs51_state.specs.FormFacts.{byte_form}
use Rattle.mcs51_state.specs.Forms.{IsByte}
use Rattle.mcs51_state.specs.Known.{Known, any_byte, byte_of}
use Rattle.mcs51_state.specs.Standing.{AreAddresses, MayStandAt}
use Rattle.mcs51_state.specs.Under.{IsUnder}
use Rattle.mcs51_state.specs.Reading.{read_byte}
use Rattle.mcs51_state.specs.Following.{IsValue}
use Rattle.mcs51_state.specs.ValueFacts.{plain_value}
use Rattle.mcs51_results.specs.InstructionLaws.{InstructionLaws}

pub any_is : (laws : InstructionLaws) (framed : Bool) → IsByte framed (byte_of any_byte)
any_is laws framed = byte_form framed any_byte (laws.known.sets.whole_normal 256 (omega arith))

pub any_value : (laws : InstructionLaws) (framed : Bool) (first : Option ChipState) (x : ℕ) → x < 256
    → IsValue framed first (byte_of any_byte) x
any_value laws framed first x small = plain_value framed first any_byte x (laws.known.sets.whole_normal 256 (omega arith)) (laws.known.sets.whole 256 x small)

pub read_value : (laws : InstructionLaws) (framed : Bool) (a : Known) (s : ChipState) (first : Option ChipState) (addresses : Addresses) (address : Address) (x : ℕ)
    → IsUnder framed a s first → MayStandAt addresses address
    → AreAddresses addresses → MayRead s address x → IsValue framed first (read_byte framed a addresses) x
read_value laws framed a s first addresses address x under stands are may = record {
  form = laws.operands.reads.form framed a under.form addresses are;
  holds = laws.operands.reads.byte framed a s first under addresses address x stands are may;
}
