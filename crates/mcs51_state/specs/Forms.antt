-- The form of what is known of a state: sets in their one form, cells of one byte, some level that may be in service, and
-- relations in interrupt frames alone.
use Rattle.std.specs.Prelude.{◌≡◌, ℕ, ◌<◌, ◌≤◌, Bool, true, false, Option, None, Some, [], length, bit_and, All}
use Rattle.call_context.specs.declared.node.Frame.{Frame}
use Rattle.call_context.specs.declared.node.Frame.TheVariants.{Base, Irq}
use Rattle.call_context.specs.declared.node.Node.{Node}
use Rattle.call_context.specs.declared.node.Node.TheVariants.{At, Exit}
use Rattle.call_context.specs.Nodes.{frame_of, HasEntry}
use Rattle.entry_value.specs.declared.byte.Byte.{Byte}
use Rattle.entry_value.specs.declared.cells.Cell.{Cell}
use Rattle.entry_value.specs.declared.word.Entry.{Entry}
use Rattle.entry_value.specs.Cells.{AreCells}
use Rattle.irq_frames.specs.Ranges.{AreRanges}
use Rattle.value_set.specs.Form.{IsNormal}
use Rattle.mcs51_state.specs.declared.fact.Compared.{Compared}
use Rattle.mcs51_state.specs.declared.fact.Compared.TheVariants.{Accumulator, Ram}
use Rattle.mcs51_state.specs.declared.fact.LinearFact.{LinearFact}
use Rattle.mcs51_state.specs.declared.fact.CarryFact.{CarryFact}
use Rattle.mcs51_state.specs.declared.levels.Levels.{Levels}
use Rattle.mcs51_state.specs.Known.{Known, is_interrupt}
use Rattle.mcs51_state.specs.Levels.{may_serve}
use Rattle.mcs51_state.specs.Places.{ie_place, ip_place, psw_place, is_place}

-- VALUES

-- a relation names a place, by masks of 8 bits; there is none in the base frame
abbrev pub IsRelation : Bool → Option Entry → Type 0
IsRelation framed None = Unit {0}
IsRelation false (Some entry) = ⊥
IsRelation true (Some entry) = (is_place entry.place ≡ true) × (entry.and < 256) × (entry.or < 256)

-- That of a register with bits that it doesn't hold names the register itself. Those bits are in the AND mask and not in the
-- OR mask.
abbrev pub IsOwnRelation : (framed : Bool) → (place unheld : ℕ) → Option Entry → Type 0
IsOwnRelation framed place unheld None = Unit {0}
IsOwnRelation false place unheld (Some entry) = ⊥
IsOwnRelation true place unheld (Some entry) = (entry.place ≡ place)
    × (entry.and < 256) × (bit_and entry.and unheld ≡ unheld) × (entry.or < 256) × (bit_and entry.or unheld ≡ 0)

pub record IsByte (framed : Bool) (byte : Byte) : Type 0 where
  pub normal : IsNormal 256 byte.set
  pub entry : IsRelation framed byte.entry

pub record IsOwnByte (framed : Bool) (place unheld : ℕ) (byte : Byte) : Type 0 where
  pub normal : IsNormal 256 byte.set
  pub entry : IsOwnRelation framed place unheld byte.entry

-- something may be in service, if only no level
abbrev pub AreLevels : Levels → Type 0
AreLevels levels = (low high : Bool) × (may_serve levels low high ≡ true)

-- the numbers of a fact are bytes, and it names a byte of RAM or the accumulator
abbrev pub IsLinear : Option LinearFact → Type 0
IsLinear None = Unit {0}
IsLinear (Some fact) = (fact.place < 256) × (fact.factor < 256) × (fact.added < 256)

abbrev pub IsCompared : Compared → Type 0
IsCompared Accumulator = Unit {0}
IsCompared (Ram at) = at < 256

abbrev pub IsCarry : Option CarryFact → Type 0
IsCarry None = Unit {0}
IsCarry (Some fact) = IsCompared fact.compared × (fact.bound < 256)

pub record IsChipCell (framed : Bool) (cell : Cell) : Type 0 where
  pub size : cell.size ≡ 1
  pub entry : IsRelation framed cell.word.entry

-- STATES

-- in an interrupt's frame or in none
pub record IsKnown (framed : Bool) (known : Known) : Type 0 where
  pub sp : IsNormal 256 known.sp
  pub a : IsByte framed known.a
  pub b : IsByte framed known.b
  pub dpl : IsByte framed known.dpl
  pub dph : IsByte framed known.dph
  pub ie : IsOwnByte framed ie_place 64 known.ie
  pub ip : IsOwnByte framed ip_place 192 known.ip
  pub bits : length known.psw.bits ≡ 6
  pub psw : IsOwnRelation framed psw_place 3 known.psw.entry
  pub levels : AreLevels known.levels
  pub linear_fact : IsLinear known.linear_fact
  pub carry_fact : IsCarry known.carry_fact
  pub from : known.cells.lo ≡ 0
  pub up_to : known.cells.hi ≡ 255
  pub cells : AreCells 0 255 0 known.cells.cells
  pub each_cell : All (IsChipCell framed) known.cells.cells
  pub touched : AreRanges 0 255 known.touched
  pub none_touched : framed ≡ false → known.touched ≡ []

-- NODES

abbrev pub IsEntrySp : Option ℕ → Type 0
IsEntrySp None = Unit {0}
IsEntrySp (Some sp) = sp < 256

-- One of the six interrupts. In its handler the low level is in service, the high one, or both: 1, 2 or 3.
abbrev pub IsFrame : Frame → Type 0
IsFrame Base = Unit {0}
IsFrame (Irq vector sp level) = (vector < 6) × IsEntrySp sp × (1 ≤ level) × (level ≤ 3)

-- at most eight call sites; the frame of an exit has a stack pointer
abbrev pub IsNode : Node → Type 0
IsNode (At pc calls frame) = (pc < 65536) × (length calls ≤ 8) × All (λ site. site < 65536) calls × IsFrame frame
IsNode (Exit pc frame) = (pc < 65536) × IsFrame frame × HasEntry frame

abbrev pub HasChipForm : Node → Known → Type 0
HasChipForm node known = IsNode node × IsKnown (is_interrupt (frame_of node)) known
