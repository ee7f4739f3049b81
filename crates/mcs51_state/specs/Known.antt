-- What an analysis of the MCS-51 knows of a state: sets of values for its registers and its RAM, bits of PSW, which interrupt
-- levels may be in service, and what is kept for the return from an interrupt (value sets after G. Balakrishnan and T. Reps,
-- "WYSINWYX: What You See Is Not What You eXecute", 2010; the registers of Intel, MCS-51 Microcontroller Family User's
-- Manual, "Special Function Registers").
use Rattle.std.specs.Prelude.{ℕ, ◌&&◌, Bool, Option, None, List, [], ◌∷◌}
use Rattle.entry_value.specs.declared.byte.Byte.{Byte}
use Rattle.entry_value.specs.declared.cells.Cell.{Cell}
use Rattle.entry_value.specs.Words.{common_entry, byte_within}
use Rattle.entry_value.specs.Cells.{CellMap, join_cells, widen_cells, are_within}
use Rattle.irq_frames.specs.Ranges.{ranges_within, united}
use Rattle.value_bits.specs.declared.tri.Tri.TheVariants.{Zero, Either}
use Rattle.value_set.specs.declared.form.Form.{Form}
use Rattle.value_set.specs.Form.{gather, make}
use Rattle.value_set.specs.Joining.{is_within, join}
use Rattle.value_set.specs.Summing.{single}
use Rattle.value_set.specs.Widening.{widen}
use Rattle.irq_frames.specs.Touched as ranges
pub use Rattle.irq_frames.specs.Touched.{is_interrupt}
use Rattle.mcs51_state.specs.declared.fact.LinearFact.{LinearFact}
use Rattle.mcs51_state.specs.declared.fact.CarryFact.{CarryFact}
use Rattle.mcs51_state.specs.declared.levels.Levels.{Levels}
use Rattle.mcs51_state.specs.declared.status.Status.{Status}
use Rattle.mcs51_state.specs.Facts.{is_same_linear, is_same_carry, common_fact, is_fact_within}
use Rattle.mcs51_state.specs.Levels.{all_levels, only_none, levels_joined, levels_within}
use Rattle.mcs51_state.specs.Status.{status_joined, status_within, status_of}

pub record Known : Type 0 where
  pub sp : Form
  pub a : Byte
  pub b : Byte
  pub dpl : Byte
  pub dph : Byte
  pub ie : Byte
  pub ip : Byte
  pub psw : Status
  pub levels : Levels
  -- what the accumulator is by a byte of RAM
  pub linear_fact : Option LinearFact
  -- what CY says of a byte
  pub carry_fact : Option CarryFact
  pub cells : CellMap
  -- the bytes of RAM that may be other ones than when the interrupt came
  pub touched : List (ℕ × ℕ)

-- THE FIRST STATE AND THE GREATEST

abbrev pub any_byte : Form
any_byte = make 256 0 1 256

-- a byte of some numbers, without a relation
abbrev pub byte_of : Form → Byte
byte_of set = record { set = set; entry = None }

-- all 256 bytes of RAM, of which nothing is known
abbrev pub no_cells : CellMap
no_cells = record { lo = 0; hi = 255; cells = [] }

-- A, B, DPL and DPH are alike, and nothing is known beside registers and levels
abbrev pub known_by : (sp : Form) → (each ie ip : Byte) → Status → Levels → (touched : List (ℕ × ℕ)) → Known
known_by sp each ie ip psw levels touched = record {
  sp = sp;
  a = each;
  b = each;
  dpl = each;
  dph = each;
  ie = ie;
  ip = ip;
  psw = psw;
  levels = levels;
  linear_fact = None;
  carry_fact = None;
  cells = no_cells;
  touched = touched;
}

-- Behind a reset SP is 7, the other registers are 0 in the bits that they hold and any in the others, no level is in service,
-- and RAM is any.
abbrev pub first_known : Known
first_known =
    known_by (single 7) (byte_of (single 0)) (byte_of (gather 256 (0 ∷ 64 ∷ []))) (byte_of (gather 256 (0 ∷ 64 ∷ 128 ∷ 192 ∷ []))) (status_of Zero) only_none []

abbrev pub all_touched : Bool → List (ℕ × ℕ)
all_touched framed = ranges.all_touched framed 0 255

-- nothing is known; in an interrupt's frame all RAM may be touched
abbrev pub top_known : (framed : Bool) → Known
top_known framed =
    known_by any_byte (byte_of any_byte) (byte_of any_byte) (byte_of any_byte) (status_of Either) all_levels (all_touched framed)

-- JOINING AND WIDENING

abbrev pub byte_united : (of_sets : Form → Form → Form) → (held new : Byte) → Byte
byte_united of_sets held new = record { set = of_sets held.set new.set; entry = common_entry held.entry new.entry }

-- What a union of sets and one of cells make of two states: relations, facts and cells that both have, and the levels and
-- the touched bytes of either.
abbrev pub known_united : (of_sets : Form → Form → Form) → (of_cells : List Cell → List Cell → List Cell) → (held new : Known) → Known
known_united of_sets of_cells held new = record {
  sp = of_sets held.sp new.sp;
  a = byte_united of_sets held.a new.a;
  b = byte_united of_sets held.b new.b;
  dpl = byte_united of_sets held.dpl new.dpl;
  dph = byte_united of_sets held.dph new.dph;
  ie = byte_united of_sets held.ie new.ie;
  ip = byte_united of_sets held.ip new.ip;
  psw = status_joined held.psw new.psw;
  levels = levels_joined held.levels new.levels;
  linear_fact = common_fact is_same_linear held.linear_fact new.linear_fact;
  carry_fact = common_fact is_same_carry held.carry_fact new.carry_fact;
  cells = record held.cells { cells = of_cells held.cells.cells new.cells.cells };
  touched = united held.touched new.touched;
}

unfoldable pub known_joined : (held new : Known) → Known
known_joined held new = known_united (join 256) join_cells held new

-- sets grow to the next marks; without marks to whole classes
unfoldable pub known_widened : List ℕ → (held new : Known) → Known
known_widened marks held new = known_united (λ h n. widen 256 h n marks) (λ h n. widen_cells h n marks) held new

-- THE ORDER

-- each set is included, and the first one has each relation of the second
unfoldable pub registers_within : (new held : Known) → Bool
registers_within new held =
    is_within 256 new.sp held.sp
    && byte_within new.a held.a
    && byte_within new.b held.b
    && byte_within new.dpl held.dpl
    && byte_within new.dph held.dph
    && byte_within new.ie held.ie
    && byte_within new.ip held.ip

-- Each set, each bit and each level is included, what the second one says by relations, facts and cells the first one says
-- too, and the first one's touched bytes are among those of the second.
unfoldable pub known_within : (new held : Known) → Bool
known_within new held =
    registers_within new held
    && status_within new.psw held.psw
    && levels_within new.levels held.levels
    && is_fact_within is_same_linear new.linear_fact held.linear_fact
    && is_fact_within is_same_carry new.carry_fact held.carry_fact
    && are_within new.cells.cells held.cells.cells
    && ranges_within new.touched held.touched
