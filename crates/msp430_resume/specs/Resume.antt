-- What is known where a return from an interrupt resumes the state that the interrupt suspended: what the handler left,
-- told by the state at the place where it came (SLAU049, chapter 2, "Return From Interrupt").
use Rattle.std.specs.Prelude.{ℕ, ◌-◌, ◌==◌, ◌&&◌, if◌then◌else◌, Bool, Option, None, Some, List, map}
use Rattle.std.specs.List.{slice_index_or}
use Rattle.entry_value.specs.declared.word.Entry.{Entry}
use Rattle.entry_value.specs.declared.word.Word.{Word}
use Rattle.entry_value.specs.Cells.{unknown}
use Rattle.irq_frames.specs.Masking.{masked_bits, masked_entry}
use Rattle.irq_frames.specs.Ranges.{touched_behind}
use Rattle.irq_frames.specs.Resuming.{is_itself, resumed_cells, resumed_word}
use Rattle.value_set.specs.Summing.{single}
use Rattle.msp430_state.specs.declared.fact.FlagFact.{FlagFact}
use Rattle.msp430_state.specs.declared.status.Status.{Status}
use Rattle.msp430_state.specs.Known.{Known, word_of}
use Rattle.msp430_alu.specs.Registers.{status_set}

-- THE PLACES OF THE SUSPENDED STATE

-- PC, SR and R4 to R15, which alone are asked for
abbrev pub held_word : (pc : ℕ) → (status : Word) → (registers : List Word) → (place : ℕ) → Word
held_word pc status registers place =
    if place == 0 then record { set = single pc; entry = None }
    else if place == 2 then status
    else slice_index_or registers (place - 4) (unknown 2)

-- SR as a word
abbrev pub status_word : Status → Word
status_word status = record { set = status_set status; entry = status.entry }

-- what each place held where an interrupt came at an address
abbrev pub place_word : Known → (pc : ℕ) → (place : ℕ) → Word
place_word a pc = held_word pc (status_word a.status) a.registers

-- SR

-- SR as it goes on, bit by bit
abbrev pub status_by : Status → (exit : Status) → Option Entry → Status
status_by held exit None = record { bits = exit.bits; entry = None }
status_by held exit (Some entry) = record {
  bits = masked_bits entry.and entry.or held.bits;
  entry = masked_entry entry held.entry;
}

abbrev pub status_resumed : (held exit : Status) → Status
status_resumed held exit = status_by held exit exit.entry

-- THE FACT

-- the fact stays where its register and SR are what they were
abbrev pub fact_resumed : Known → Option FlagFact → Option FlagFact
fact_resumed exit None = None
fact_resumed exit (Some fact) =
    if is_itself 65535 2 exit.status.entry && is_itself 65535 fact.register (word_of exit fact.register).entry then Some fact else None

-- THE RESUMED STATE

-- from what is known at an address where the interrupt came at a stack pointer, and at the exit of its frame
unfoldable pub resumed_known : (framed : Bool) → Known → (pc sp : ℕ) → (exit : Known) → Known
resumed_known framed a pc sp exit = record {
  sp = single sp;
  status = status_resumed a.status exit.status;
  late = exit.late;
  registers = map (resumed_word (place_word a pc)) exit.registers;
  fact = fact_resumed exit a.fact;
  cells = resumed_cells (place_word a pc) a.cells exit.cells exit.touched;
  touched = touched_behind framed a.touched exit.touched;
}
