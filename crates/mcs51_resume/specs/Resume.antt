-- What is known where a return from an interrupt resumes the state that the interrupt suspended: what the handler left,
-- told by the state at the place where it came (Intel, MCS-51 Microcontroller Family User's Manual, "How Interrupts Are
-- Handled").
use Rattle.std.specs.Prelude.{ℕ, ◌-◌, ◌/◌, ◌%◌, ◌==◌, ◌&&◌, ◌||◌, not, nat_lt, if◌then◌else◌, Bool, Option, None, Some, List}
use Rattle.entry_value.specs.declared.byte.Byte.{Byte}
use Rattle.entry_value.specs.declared.cells.Cell.{Cell}
use Rattle.entry_value.specs.declared.word.Entry.{Entry}
use Rattle.entry_value.specs.declared.word.Word.{Word}
use Rattle.entry_value.specs.Cells.{CellMap, read}
use Rattle.entry_value.specs.Words.{byte_and, byte_or}
use Rattle.irq_frames.specs.Masking.{masked_bits, masked_entry}
use Rattle.irq_frames.specs.Ranges.{has_address, touched_behind}
use Rattle.irq_frames.specs.Resuming.{cells_behind, is_itself, is_unmasked}
use Rattle.value_set.specs.Summing.{single}
use Rattle.mcs51_state.specs.declared.addresses.Addresses.TheVariants.{InRam, InSfr}
use Rattle.mcs51_state.specs.declared.fact.CarryFact.{CarryFact}
use Rattle.mcs51_state.specs.declared.fact.Compared.{Compared}
use Rattle.mcs51_state.specs.declared.fact.Compared.TheVariants.{Accumulator, Ram}
use Rattle.mcs51_state.specs.declared.fact.LinearFact.{LinearFact}
use Rattle.mcs51_state.specs.declared.status.Status.{Status}
use Rattle.mcs51_state.specs.Known.{Known, byte_of}
use Rattle.mcs51_state.specs.Places.{psw_place}
use Rattle.mcs51_state.specs.Reading.{read_byte}
use Rattle.mcs51_state.specs.Writing.{word_of_byte}

-- THE PLACES OF THE SUSPENDED STATE

abbrev pub accumulator_place : ℕ
accumulator_place = 0x1E0

-- what a place held where an interrupt came at an address: a byte of RAM, a register, or the low or the high byte of PC
unfoldable pub place_byte : (framed : Bool) → Known → (pc place : ℕ) → Byte
place_byte framed a pc place =
    if nat_lt place 256 then read_byte framed a (InRam (single place))
    else if nat_lt place 512 then read_byte framed a (InSfr (place - 256))
    else if place == 512 then byte_of (single (pc % 256))
    else byte_of (single (pc / 256))

-- BYTES

-- What a place held, behind the masks of a relation. Those of a byte are the low bytes.
abbrev pub masked_by : Entry → Byte → Byte
masked_by entry held = if is_unmasked 255 entry then held else byte_or (entry.or % 256) (byte_and (entry.and % 256) held)

abbrev pub resumed_by : (places : ℕ → Byte) → Byte → Option Entry → Byte
resumed_by places exit None = exit
resumed_by places exit (Some entry) = masked_by entry (places entry.place)

-- a byte of the exit, where the places of the suspended state held these bytes
abbrev pub resumed_byte : (places : ℕ → Byte) → Byte → Byte
resumed_byte places exit = resumed_by places exit exit.entry

-- PSW

-- the bits 7 to 2
abbrev pub status_by : Status → (exit : Status) → Option Entry → Status
status_by held exit None = exit
status_by held exit (Some entry) = record {
  bits = masked_bits (entry.and / 4) (entry.or / 4) held.bits;
  entry = masked_entry entry held.entry;
}

abbrev pub status_resumed : (held exit : Status) → Status
status_resumed held exit = status_by held exit exit.entry

-- FACTS

-- a byte of RAM is what it held: no handler touched it, or it holds that again
abbrev pub is_ram_itself : (exit : Known) → (at : ℕ) → Bool
is_ram_itself exit at = not (has_address exit.touched at) || is_itself 255 at (read exit.cells.cells at 1).entry

abbrev pub is_compared_itself : (exit : Known) → Compared → Bool
is_compared_itself exit Accumulator = is_itself 255 accumulator_place exit.a.entry
is_compared_itself exit (Ram at) = is_ram_itself exit at

-- the fact of the accumulator stays where this and its byte of RAM are what they were
abbrev pub linear_resumed : (exit : Known) → Option LinearFact → Option LinearFact
linear_resumed exit None = None
linear_resumed exit (Some fact) =
    if is_itself 255 accumulator_place exit.a.entry && is_ram_itself exit fact.place then Some fact else None

-- that of CY where all of PSW and the compared byte are what they were
abbrev pub carry_resumed : (exit : Known) → Option CarryFact → Option CarryFact
carry_resumed exit None = None
carry_resumed exit (Some fact) =
    if is_itself 255 psw_place exit.psw.entry && is_compared_itself exit fact.compared then Some fact else None

-- CELLS

abbrev pub cell_word_by : (places : ℕ → Byte) → Word → Option Entry → Word
cell_word_by places exit None = exit
cell_word_by places exit (Some entry) = word_of_byte (masked_by entry (places entry.place))

abbrev pub resumed_cell_word : (places : ℕ → Byte) → Cell → Word
resumed_cell_word places cell = cell_word_by places cell.word cell.word.entry

-- the suspended state's cells that no handler touched, and the exit's that one did
abbrev pub resumed_cells : (places : ℕ → Byte) → (at exit : CellMap) → (touched : List (ℕ × ℕ)) → CellMap
resumed_cells places = cells_behind (resumed_cell_word places)

-- THE RESUMED STATE

-- from what is known at an address where the interrupt came at a stack pointer, and at the exit of its frame
unfoldable pub resumed_known : (framed : Bool) → Known → (pc sp : ℕ) → (exit : Known) → Known
resumed_known framed a pc sp exit = record {
  sp = single sp;
  a = resumed_byte (place_byte framed a pc) exit.a;
  b = resumed_byte (place_byte framed a pc) exit.b;
  dpl = resumed_byte (place_byte framed a pc) exit.dpl;
  dph = resumed_byte (place_byte framed a pc) exit.dph;
  ie = resumed_byte (place_byte framed a pc) exit.ie;
  ip = resumed_byte (place_byte framed a pc) exit.ip;
  psw = status_resumed a.psw exit.psw;
  levels = exit.levels;
  linear_fact = linear_resumed exit a.linear_fact;
  carry_fact = carry_resumed exit a.carry_fact;
  cells = resumed_cells (place_byte framed a pc) a.cells exit.cells exit.touched;
  touched = touched_behind framed a.touched exit.touched;
}
