-- What an analysis of the MCS-51 says of a single state, and of the one that an interrupt suspended first (G. Balakrishnan
-- and T. Reps, "WYSINWYX: What You See Is Not What You eXecute", 2010: value sets under call strings; the interrupts of
-- Intel, MCS-51 Microcontroller Family User's Manual, "Interrupts").
use Rattle.std.specs.Prelude.{◌≡◌, ℕ, ◌+◌, ◌*◌, ◌/◌, ◌%◌, nat_lt, true, false, Option, option_map, None, Some, List, slice_index}
use Rattle.call_context.specs.declared.node.Frame.{Frame}
use Rattle.call_context.specs.declared.node.Frame.TheVariants.{Base, Irq}
use Rattle.call_context.specs.declared.node.Node.{Node}
use Rattle.call_context.specs.declared.node.Node.TheVariants.{At, Exit}
use Rattle.entry_value.specs.declared.byte.Byte.{Byte}
use Rattle.entry_value.specs.Words.{Suspended, IsFromEntry, HoldsOfByte}
use Rattle.entry_value.specs.Cells.{StandsUnder}
use Rattle.irq_frames.specs.Ranges.{has_address}
use Rattle.value_bits.specs.Bits.{Agrees}
use Rattle.value_set.specs.Form.{Has}
use Rattle.mcs51_chip.specs.declared.place.Sfr.{Sfr}
use Rattle.mcs51_chip.specs.declared.place.Sfr.TheVariants.{Ie, Ip}
use Rattle.mcs51_chip.specs.declared.state.ChipState.{ChipState}
use Rattle.mcs51_chip.specs.Leading.{MayReadSfr}
use Rattle.mcs51_chip.specs.Registers.{bit_of, carry_of}
use Rattle.mcs51_chip.specs.State.{IsChipState}
use Rattle.mcs51_state.specs.declared.fact.Compared.{Compared}
use Rattle.mcs51_state.specs.declared.fact.Compared.TheVariants.{Accumulator, Ram}
use Rattle.mcs51_state.specs.declared.fact.LinearFact.{LinearFact}
use Rattle.mcs51_state.specs.declared.fact.CarryFact.{CarryFact}
use Rattle.mcs51_state.specs.declared.status.Status.{Status}
use Rattle.mcs51_state.specs.Known.{Known}
use Rattle.mcs51_state.specs.Levels.{may_serve}
use Rattle.mcs51_state.specs.Places.{suspended_of}

-- THE PARTS OF A STATE

-- of a register that doesn't hold all of its bits: of each number that it may be read as
abbrev pub HoldsOfReads : Option Suspended → Byte → ChipState → Sfr → Type 0
HoldsOfReads first byte s sfr = (x : ℕ) → MayReadSfr s sfr x → HoldsOfByte first byte x

-- of PSW, which holds its bits 7 to 2
pub record HoldsOfStatus (first : Option Suspended) (status : Status) (psw : ℕ) : Type 0 where
  pub bits : Agrees status.bits (psw / 4)
  pub entry : IsFromEntry first status.entry psw

-- A = factor * byte + added, modulo 256
abbrev pub HoldsOfLinear : Option LinearFact → ChipState → Type 0
HoldsOfLinear None s = Unit {0}
HoldsOfLinear (Some fact) s = s.a ≡ (fact.factor * slice_index s.ram fact.place + fact.added) % 256

abbrev pub compared_in : Compared → ChipState → ℕ
compared_in Accumulator s = s.a
compared_in (Ram at) s = slice_index s.ram at

-- CY is 1 exactly where the byte is less than the bound, as CJNE leaves it
abbrev pub HoldsOfCarry : Option CarryFact → ChipState → Type 0
HoldsOfCarry None s = Unit {0}
HoldsOfCarry (Some fact) s = carry_of s ≡ bit_of (nat_lt (compared_in fact.compared s) fact.bound)

-- each byte of RAM outside the touched ranges is what it was when the interrupt came
abbrev pub KeepsUntouched : List (ℕ × ℕ) → ChipState → Option ChipState → Type 0
KeepsUntouched touched s None = Unit {0}
KeepsUntouched touched s (Some f) = (at : ℕ) → has_address touched at ≡ false → slice_index s.ram at ≡ slice_index f.ram at

-- all but the program counter, and the state that an interrupt suspended first
pub record HoldsOfParts (known : Known) (s : ChipState) (first : Option ChipState) : Type 0 where
  pub sp : Has 256 known.sp s.sp
  pub a : HoldsOfByte (option_map suspended_of first) known.a s.a
  pub b : HoldsOfByte (option_map suspended_of first) known.b s.b
  pub dpl : HoldsOfByte (option_map suspended_of first) known.dpl s.dpl
  pub dph : HoldsOfByte (option_map suspended_of first) known.dph s.dph
  pub ie : HoldsOfReads (option_map suspended_of first) known.ie s Ie
  pub ip : HoldsOfReads (option_map suspended_of first) known.ip s Ip
  pub psw : HoldsOfStatus (option_map suspended_of first) known.psw s.psw
  pub levels : may_serve known.levels s.serves_low s.serves_high ≡ true
  pub linear_fact : HoldsOfLinear known.linear_fact s
  pub carry_fact : HoldsOfCarry known.carry_fact s
  pub cells : StandsUnder (option_map suspended_of first) known.cells.cells (slice_index s.ram)
  pub untouched : KeepsUntouched known.touched s first

-- STATES AT NODES

-- an interrupt suspends a state of the chip
abbrev pub IsSuspendedState : Option ChipState → Type 0
IsSuspendedState None = Unit {0}
IsSuspendedState (Some f) = IsChipState f

pub record HoldsOf (known : Known) (s : ChipState) (first : Option ChipState) : Type 0 where
  pub state : IsChipState s
  pub suspended : IsSuspendedState first
  pub parts : HoldsOfParts known s first

-- the interrupt came at the frame's stack pointer, where that is known
abbrev pub CameAt : Option ℕ → ChipState → Type 0
CameAt None f = Unit {0}
CameAt (Some sp) f = f.sp ≡ sp

-- which state was suspended first: none is in the base frame
abbrev pub StandsIn : Frame → Option ChipState → Type 0
StandsIn Base first = first ≡ None
StandsIn (Irq vector sp level) None = ⊥
StandsIn (Irq vector sp level) (Some f) = CameAt sp f

-- a state that an exit left goes on where the interrupt came, with the stack pointer of its frame
abbrev pub GoesOn : Frame → ChipState → Option ChipState → Type 0
GoesOn (Irq vector (Some sp) level) s (Some f) = (s.pc ≡ f.pc) × (s.sp ≡ sp)
GoesOn (Irq vector (Some sp) level) s None = ⊥
GoesOn (Irq vector None level) s first = ⊥
GoesOn Base s first = ⊥

-- what is known of the states at a node stands for a state of the chip, over the one that was suspended first
abbrev pub Covers : Node → Known → ChipState → Option ChipState → Type 0
Covers (At pc calls frame) known s first = (s.pc ≡ pc) × HoldsOf known s first × StandsIn frame first
Covers (Exit pc frame) known s first = GoesOn frame s first × HoldsOf known s first × StandsIn frame first
