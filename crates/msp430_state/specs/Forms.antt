-- The form of what is known of a state: sets in their one form, even stack pointers, cells that lie in RAM, and relations in
-- interrupt frames alone.
use Rattle.std.specs.Prelude.{◌≡◌, ℕ, ◌%◌, ◌<◌, ◌≤◌, ◌==◌, ◌||◌, ◌&&◌, nat_lt, Bool, true, false, Option, None, Some, [], length, bit_and, All, Contains}
use Rattle.call_context.specs.declared.node.Frame.{Frame}
use Rattle.call_context.specs.declared.node.Frame.TheVariants.{Base, Irq}
use Rattle.call_context.specs.declared.node.Node.{Node}
use Rattle.call_context.specs.declared.node.Node.TheVariants.{At, Exit}
use Rattle.call_context.specs.Nodes.{frame_of, HasEntry}
use Rattle.entry_value.specs.declared.cells.Cell.{Cell}
use Rattle.entry_value.specs.declared.word.Entry.{Entry}
use Rattle.entry_value.specs.declared.word.Word.{Word}
use Rattle.entry_value.specs.Cells.{AreCells}
use Rattle.value_set.specs.declared.form.Form.{Form}
use Rattle.value_set.specs.Form.{IsNormal}
use Rattle.value_set.specs.Remainders.{HasRemainder}
use Rattle.msp430_chip.specs.Arithmetic.{modulus}
use Rattle.msp430_state.specs.declared.fact.FlagFact.{FlagFact}
use Rattle.msp430_state.specs.Known.{Known, is_interrupt}
use Rattle.irq_frames.specs.Ranges.{AreRanges}

-- VALUES

-- the registers whose values an interrupt's handler gives back: PC, SR and R4 to R15
abbrev pub is_place : ℕ → Bool
is_place register = (register == 0) || (register == 2) || (nat_lt 3 register && nat_lt register 16)

-- a relation names a place, by masks of 16 bits; there is none in the base frame
abbrev pub IsRelation : Bool → Option Entry → Type 0
IsRelation framed None = Unit {0}
IsRelation false (Some entry) = ⊥
IsRelation true (Some entry) = (is_place entry.place ≡ true) × (entry.and < 65536) × (entry.or < 65536)

-- That of SR names SR. What SR doesn't hold, its bits 9 to 15, is in the AND mask and not in the OR mask.
abbrev pub IsStatusRelation : Bool → Option Entry → Type 0
IsStatusRelation framed None = Unit {0}
IsStatusRelation false (Some entry) = ⊥
IsStatusRelation true (Some entry) =
    (entry.place ≡ 2) × (entry.and < 65536) × (bit_and entry.and 65024 ≡ 65024) × (entry.or < 512)

pub record IsWord (framed : Bool) (word : Word) : Type 0 where
  pub normal : IsNormal 65536 word.set
  pub entry : IsRelation framed word.entry

pub record AreEvenWords (set : Form) : Type 0 where
  pub normal : IsNormal 65536 set
  pub even : HasRemainder 65536 2 0 set

-- a fact names one of R4 to R15, and its numbers are of its width
abbrev pub IsFact : Option FlagFact → Type 0
IsFact None = Unit {0}
IsFact (Some fact) = (3 < fact.register) × (fact.register < 16)
    × (fact.added < modulus fact.width) × (fact.compared < modulus fact.width)

-- a cell of two bytes has an even place, and that of one byte has no relation
pub record IsChipCell (framed : Bool) (cell : Cell) : Type 0 where
  pub even : cell.size ≡ 2 → cell.place % 2 ≡ 0
  pub byte : cell.size ≡ 1 → cell.word.entry ≡ None
  pub entry : IsRelation framed cell.word.entry

-- STATES

-- RAM from one address to another, in an interrupt's frame or in none
pub record IsKnown (lo hi : ℕ) (framed : Bool) (a : Known) : Type 0 where
  pub sp : AreEvenWords a.sp
  pub bits : length a.status.bits ≡ 9
  pub status : IsStatusRelation framed a.status.entry
  pub count : length a.registers ≡ 12
  pub registers : All (IsWord framed) a.registers
  pub fact : IsFact a.fact
  pub from : a.cells.lo ≡ lo
  pub up_to : a.cells.hi ≡ hi
  pub cells : AreCells lo hi lo a.cells.cells
  pub each_cell : (cell : Cell) → Contains a.cells.cells cell → IsChipCell framed cell
  pub touched : AreRanges lo hi a.touched
  pub none_touched : framed ≡ false → a.touched ≡ []

-- NODES

abbrev pub IsEvenWord : ℕ → Type 0
IsEvenWord word = (word < 65536) × (word % 2 ≡ 0)

abbrev pub IsEntrySp : Option ℕ → Type 0
IsEntrySp None = Unit {0}
IsEntrySp (Some sp) = IsEvenWord sp

-- one of the 14 interrupts, all of one level
abbrev pub IsFrame : Frame → Type 0
IsFrame Base = Unit {0}
IsFrame (Irq vector sp level) = (vector < 14) × IsEntrySp sp × (level ≡ 0)

-- even addresses, and at most eight call sites; the frame of an exit has a stack pointer
abbrev pub IsNode : Node → Type 0
IsNode (At pc calls frame) = IsEvenWord pc × (length calls ≤ 8) × All IsEvenWord calls × IsFrame frame
IsNode (Exit pc frame) = IsEvenWord pc × IsFrame frame × HasEntry frame

abbrev pub HasChipForm : (lo hi : ℕ) → Node → Known → Type 0
HasChipForm lo hi node a = IsNode node × IsKnown lo hi (is_interrupt (frame_of node)) a
