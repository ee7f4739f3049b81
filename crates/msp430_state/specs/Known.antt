-- What an analysis of the MSP430 knows of a state: sets of values for its registers and its RAM, bits, and what is kept for
-- the return from an interrupt (value sets after G. Balakrishnan and T. Reps, "WYSINWYX: What You See Is Not What You
-- eXecute", 2010; the registers of SLAU049, chapter 3, "CPU Registers").
use Rattle.std.specs.Prelude.{ℕ, ◌-◌, ◌&&◌, Bool, Option, None, List, [], replicate}
use Rattle.std.specs.List.{slice_index_or}
use Rattle.entry_value.specs.declared.cells.Cell.{Cell}
use Rattle.entry_value.specs.declared.word.Word.{Word}
use Rattle.entry_value.specs.Words.{common_entry, word_within}
use Rattle.entry_value.specs.Cells.{CellMap, unknown, join_cells, widen_cells, are_within}
use Rattle.value_bits.specs.declared.tri.Tri.{Tri}
use Rattle.value_bits.specs.declared.tri.Tri.TheVariants.{Zero, Either}
use Rattle.value_set.specs.declared.form.Form.{Form}
use Rattle.value_set.specs.Form.{make}
use Rattle.value_set.specs.Joining.{is_within, join}
use Rattle.value_set.specs.Widening.{widen}
pub use Rattle.irq_frames.specs.Touched.{all_touched, is_interrupt}
use Rattle.msp430_state.specs.declared.fact.FlagFact.{FlagFact}
use Rattle.msp430_state.specs.declared.status.Status.{Status}
use Rattle.msp430_state.specs.Facts.{common_fact, is_fact_within}
use Rattle.value_bits.specs.Pointwise.{each_with, each_passes}
use Rattle.irq_frames.specs.Ranges.{ranges_within, united}
use Rattle.msp430_state.specs.Status.{common_bit, is_bit_within, status_joined, status_within, status_of}

pub record Known : Type 0 where
  pub sp : Form
  pub status : Status
  pub late : Tri
  -- R4 to R15
  pub registers : List Word
  -- what the flags say of a register
  pub fact : Option FlagFact
  pub cells : CellMap
  -- the bytes of RAM that may be other ones than when the interrupt came
  pub touched : List (ℕ × ℕ)

-- what is known of one of R4 to R15
abbrev pub word_of : Known → (register : ℕ) → Word
word_of a register = slice_index_or a.registers (register - 4) (unknown 2)

-- THE FIRST STATE AND THE GREATEST

-- bit 0 of SP is always 0
abbrev pub even_words : Form
even_words = make 65536 0 2 32768

abbrev pub no_cells : (lo hi : ℕ) → CellMap
no_cells lo hi = record { lo = lo; hi = hi; cells = [] }

-- SP is even, each bit is one value of Tri, and all else is any
abbrev pub known_of : Tri → (lo hi : ℕ) → (touched : List (ℕ × ℕ)) → Known
known_of bit lo hi touched = record {
  sp = even_words;
  status = status_of bit;
  late = bit;
  registers = replicate 12 (unknown 2);
  fact = None;
  cells = no_cells lo hi;
  touched = touched;
}

-- behind a reset SR and `late` are 0
abbrev pub first_known : (lo hi : ℕ) → Known
first_known lo hi = known_of Zero lo hi []

-- Nothing is known but that SP is even; in an interrupt's frame all RAM may be touched.
abbrev pub top_known : (lo hi : ℕ) → (framed : Bool) → Known
top_known lo hi framed = known_of Either lo hi (all_touched framed lo hi)

-- JOINING AND WIDENING

abbrev pub word_united : (of_sets : Form → Form → Form) → (held new : Word) → Word
word_united of_sets held new = record { set = of_sets held.set new.set; entry = common_entry held.entry new.entry }

-- What a union of sets and one of cells make of two states: relations, facts and cells that both have, and the touched bytes
-- of either.
abbrev pub known_united : (of_sets : Form → Form → Form) → (of_cells : List Cell → List Cell → List Cell) → (held new : Known) → Known
known_united of_sets of_cells held new = record {
  sp = of_sets held.sp new.sp;
  status = status_joined held.status new.status;
  late = common_bit held.late new.late;
  registers = each_with (word_united of_sets) held.registers new.registers;
  fact = common_fact held.fact new.fact;
  cells = record held.cells { cells = of_cells held.cells.cells new.cells.cells };
  touched = united held.touched new.touched;
}

unfoldable pub known_joined : (held new : Known) → Known
known_joined held new = known_united (join 65536) join_cells held new

-- sets grow to the next marks; without marks to whole classes
unfoldable pub known_widened : List ℕ → (held new : Known) → Known
known_widened marks held new = known_united (λ h n. widen 65536 h n marks) (λ h n. widen_cells h n marks) held new

-- THE ORDER

-- Each set and each bit is included, what the second one says by relations, a fact and cells the first one says too, and the
-- first one's touched bytes are among those of the second.
unfoldable pub known_within : (new held : Known) → Bool
known_within new held =
    is_within 65536 new.sp held.sp
    && status_within new.status held.status
    && is_bit_within new.late held.late
    && each_passes word_within new.registers held.registers
    && is_fact_within new.fact held.fact
    && are_within new.cells.cells held.cells.cells
    && ranges_within new.touched held.touched
