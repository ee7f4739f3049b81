-- What holds of the operations on sets. Proofs above take these laws from one record.
use Rattle.std.specs.Prelude.{◌==◌, ◌+◌, ◌%◌, Bool, Option, ℕ}
use Rattle.std.specs.Int.{bit_at}
use Rattle.std.specs.Option.{option_map}
use Rattle.value_set.specs.declared.form.Form.{Form}
use Rattle.value_set.specs.Form.{Has, IsNormal}
use Rattle.value_bits.specs.declared.tri.Tri.{Tri}
use Rattle.value_bits.specs.Bits.{IsBit}
use Rattle.mcs51_decode.specs.declared.instr.BitOperation.{BitOperation}
use Rattle.mcs51_decode.specs.declared.instr.CarryByBit.{CarryByBit}
use Rattle.mcs51_decode.specs.declared.instr.CarryOperation.{CarryOperation}
use Rattle.mcs51_chip.specs.declared.place.Sfr.TheVariants.{Psw}
use Rattle.mcs51_chip.specs.State.{IsChipState}
use Rattle.mcs51_state.specs.declared.status.Status.{Status}
use Rattle.mcs51_state.specs.Holding.{HoldsOfStatus}
use Rattle.mcs51_state.specs.Places.{suspended_of}
use Rattle.mcs51_results.specs.StatusBytes as statuses
use Rattle.entry_value.specs.declared.byte.Byte.{Byte}
use Rattle.entry_value.specs.Words.{Suspended, HoldsOfByte}
use Rattle.mcs51_decode.specs.declared.instr.Operation.{Operation}
use Rattle.mcs51_decode.specs.declared.instr.Operation.TheVariants.{Add}
use Rattle.mcs51_decode.specs.declared.instr.Logic.{Logic}
use Rattle.mcs51_decode.specs.declared.instr.AccumulatorOperation.{AccumulatorOperation}
use Rattle.mcs51_chip.specs.declared.state.ChipState.{ChipState}
use Rattle.mcs51_chip.specs.Arithmetic.{accumulated, bit_after, carry_after, carry_with, changed, masked, multiplied}
use Rattle.mcs51_chip.specs.Leading.{MayDivide, MayReadSfr}
use Rattle.mcs51_chip.specs.Registers.{carry_of, data_pointer, with_bit, with_carry, with_data_pointer, write_sfr}
use Rattle.mcs51_chip.specs.Step.{Effect}
use Rattle.mcs51_state.specs.Forms.{IsByte}
use Rattle.mcs51_results.specs.declared.made.Made.{Made}
use Rattle.mcs51_results.specs.declared.made.MadePair.{MadePair}
use Rattle.mcs51_results.specs.declared.made.Operand.{Operand}
use Rattle.mcs51_results.specs.Holding.{AreOperands, IsOperand, IsMade, IsPair, IsStatus, HoldsOfMade, HoldsOfPair, StandsMade, StandsPair}
use Rattle.mcs51_results.specs.Results as results

-- The operations on the accumulator and PSW: where what is known holds of a state, what is known behind the operation holds
-- of the state that the chip comes to. The form is kept.
pub record AccumulationsHold : Type 0 where
  pub two : (framed : Bool) (first : Option Suspended) (done : Operation) (made : Made) (operand : Operand) (x : ℕ)
      (s : ChipState)
      → StandsMade framed first made s → IsOperand operand x
      → HoldsOfMade first (results.accumulated_made done made.a operand made.psw) (accumulated done x s)
  pub two_form : (framed : Bool) (done : Operation) (made : Made) (operand : Operand) → IsMade framed made
      → AreOperands operand → IsMade framed (results.accumulated_made done made.a operand made.psw)
  pub twice : (framed : Bool) (first : Option Suspended) (made : Made) (s : ChipState) → StandsMade framed first made s
      → HoldsOfMade first (results.twice_made made.a made.psw) (accumulated Add s.a s)
  pub twice_form : (framed : Bool) (made : Made) → IsMade framed made
      → IsMade framed (results.twice_made made.a made.psw)
  pub alone : (framed : Bool) (first : Option Suspended) (done : AccumulatorOperation) (made : Made) (s : ChipState)
      → StandsMade framed first made s
      → HoldsOfMade first (results.changed_made done made.a made.psw) (changed done s)
  pub alone_form : (framed : Bool) (done : AccumulatorOperation) (made : Made) → IsMade framed made
      → IsMade framed (results.changed_made done made.a made.psw)

-- MUL and DIV, likewise.
pub record ProductsHold : Type 0 where
  pub multiplied : (framed : Bool) (first : Option Suspended) (made : MadePair) (s : ChipState)
      → StandsPair framed first made s
      → HoldsOfPair first (results.multiplied_made made.a made.b made.psw) (multiplied s)
  pub multiplied_form : (framed : Bool) (made : MadePair) → IsPair framed made
      → IsPair framed (results.multiplied_made made.a made.b made.psw)
  pub divided : (framed : Bool) (first : Option Suspended) (made : MadePair) (s : ChipState) (effect : Effect)
      → StandsPair framed first made s → MayDivide (s.b == 0) s effect
      → HoldsOfPair first (results.divided_made made.a made.b made.psw) effect.1
  pub divided_form : (framed : Bool) (made : MadePair) → IsPair framed made
      → IsPair framed (results.divided_made made.a made.b made.psw)

-- The operations on a byte, and INC DPTR, likewise.
pub record ChangesHold : Type 0 where
  pub masked : (framed : Bool) (first : Option Suspended) (done : Logic) (byte : Byte) (operand : Operand) (x mask : ℕ)
      → IsByte framed byte → HoldsOfByte first byte x → IsOperand operand mask
      → HoldsOfByte first (results.masked_made done byte operand) (masked done x mask)
  pub masked_form : (framed : Bool) (done : Logic) (byte : Byte) (operand : Operand) → IsByte framed byte
      → AreOperands operand → IsByte framed (results.masked_made done byte operand)
  pub increased : (framed : Bool) (first : Option Suspended) (byte : Byte) (x : ℕ) → IsByte framed byte
      → HoldsOfByte first byte x → HoldsOfByte first (results.increased byte) ((x + 1) % 256)
  pub increased_form : (framed : Bool) (byte : Byte) → IsByte framed byte → IsByte framed (results.increased byte)
  pub decreased : (framed : Bool) (first : Option Suspended) (byte : Byte) (x : ℕ) → IsByte framed byte
      → HoldsOfByte first byte x → HoldsOfByte first (results.decreased byte) ((x + 255) % 256)
  pub decreased_form : (framed : Bool) (byte : Byte) → IsByte framed byte → IsByte framed (results.decreased byte)
  pub pointer : (framed : Bool) (first : Option Suspended) (dpl dph : Byte) (s : ChipState) → IsByte framed dpl
      → IsByte framed dph → HoldsOfByte first dpl s.dpl → HoldsOfByte first dph s.dph
      → HoldsOfByte first (results.pointer_increased dpl dph).0
      (with_data_pointer ((data_pointer s + 1) % 65536) s).dpl × HoldsOfByte first
      (results.pointer_increased dpl dph).1 (with_data_pointer ((data_pointer s + 1) % 65536) s).dph
  pub pointer_form : (framed : Bool) (dpl dph : Byte) → IsByte framed dpl → IsByte framed dph
      → IsByte framed (results.pointer_increased dpl dph).0 × IsByte framed (results.pointer_increased dpl dph).1

-- PSW as a byte: what is known behind a write of a byte that ORL, ANL or XRL made of it holds of what the chip then holds. The
-- form is kept.
pub record StatusesHold : Type 0 where
  pub masked : (framed : Bool) (first : Option ChipState) (done : Logic) (psw : Status) (operand : Operand)
      (s : ChipState) (x mask : ℕ)
      → IsChipState s → IsStatus framed psw → HoldsOfStatus (option_map suspended_of first) psw s.psw
      → MayReadSfr s Psw x → IsOperand operand mask
      → HoldsOfStatus (option_map suspended_of first) (statuses.masked_status done psw operand)
      (write_sfr Psw (masked done x mask) s).psw
  pub masked_form : (framed : Bool) (done : Logic) (psw : Status) (operand : Operand) → IsStatus framed psw
      → AreOperands operand → IsStatus framed (statuses.masked_status done psw operand)

-- CY, and bits of bytes and of PSW by their addresses, likewise.
pub record BitChangesHold : Type 0 where
  pub carry : (first : Option Suspended) (done : CarryOperation) (psw : Status) (s : ChipState)
      → HoldsOfStatus first psw s.psw
      → HoldsOfStatus first (statuses.carry_made done psw) (with_carry (carry_after done (carry_of s)) s).psw
  pub carry_form : (framed : Bool) (done : CarryOperation) (psw : Status)
      → IsStatus framed (statuses.carry_made done psw)
  pub carry_bit : (first : Option Suspended) (done : CarryByBit) (psw : Status) (b : Tri) (y : ℕ) (s : ChipState)
      → HoldsOfStatus first psw s.psw → IsBit b y
      → HoldsOfStatus first (statuses.carry_bit_made done b psw) (with_carry (carry_with done (carry_of s) y) s).psw
  pub carry_bit_form : (framed : Bool) (done : CarryByBit) (psw : Status) (b : Tri)
      → IsStatus framed (statuses.carry_bit_made done b psw)
  pub byte : (framed : Bool) (first : Option Suspended) (done : BitOperation) (at : ℕ) (t : Tri) (byte : Byte) (x c : ℕ)
      → IsByte framed byte → HoldsOfByte first byte x → IsBit t c
      → HoldsOfByte first (statuses.byte_with_bit done at t byte)
      (with_bit x (at % 8) (bit_after done c (bit_at x (at % 8))))
  pub byte_form : (framed : Bool) (done : BitOperation) (at : ℕ) (t : Tri) (byte : Byte) → IsByte framed byte
      → IsByte framed (statuses.byte_with_bit done at t byte)
  pub byte_bit : (at : ℕ) (set : Form) (x : ℕ) → IsNormal 256 set → Has 256 set x
      → IsBit (statuses.bit_of_set set (at % 8)) (bit_at x (at % 8))
  pub status : (framed : Bool) (first : Option ChipState) (done : BitOperation) (at : ℕ) (psw : Status) (s : ChipState)
      (x : ℕ)
      → IsChipState s → IsStatus framed psw → HoldsOfStatus (option_map suspended_of first) psw s.psw
      → MayReadSfr s Psw x
      → HoldsOfStatus (option_map suspended_of first) (statuses.status_with_bit done at psw)
      (write_sfr Psw (with_bit x (at % 8) (bit_after done (carry_of s) (bit_at x (at % 8)))) s).psw
  pub status_form : (framed : Bool) (done : BitOperation) (at : ℕ) (psw : Status) → IsStatus framed psw
      → IsStatus framed (statuses.status_with_bit done at psw)
  pub status_bit : (first : Option Suspended) (at : ℕ) (psw : Status) (s : ChipState) (x : ℕ) → IsChipState s
      → HoldsOfStatus first psw s.psw → MayReadSfr s Psw x
      → IsBit (statuses.bit_of_status psw (at % 8)) (bit_at x (at % 8))

pub record ResultLaws : Type 0 where
  pub accumulations : AccumulationsHold
  pub products : ProductsHold
  pub changes : ChangesHold
  pub statuses : StatusesHold
  pub bits : BitChangesHold
