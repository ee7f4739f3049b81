-- What is known of a state of the MCS-51 behind the write of a byte: into RAM at one of some addresses, or into a register
-- (Intel, MCS-51 Programmer's Guide and Instruction Set, "Memory Organization" and "Special Function Registers").
use Rattle.std.specs.Prelude.{ℕ, ◌+◌, ◌-◌, ◌==◌, nat_le, if◌then◌else◌, Bool, true, false, Option, None, Some, List, [], ◌∷◌, drop, slice_set, bit_and, bit_or}
use Rattle.entry_value.specs.declared.byte.Byte.{Byte}
use Rattle.entry_value.specs.declared.word.Entry.{Entry}
use Rattle.entry_value.specs.declared.word.Word.{Word}
use Rattle.entry_value.specs.Cells.{CellMap, read, write_one}
use Rattle.entry_value.specs.Words.{word_join}
use Rattle.irq_frames.specs.Ranges.{with_range}
use Rattle.value_bits.specs.declared.tri.Logic.TheVariants.{And, Or}
use Rattle.value_bits.specs.declared.tri.Tri.{Tri}
use Rattle.value_bits.specs.Bits.{known_bits}
use Rattle.value_bits.specs.Sets.{logic_set, pair_set}
use Rattle.value_set.specs.declared.form.Form.{Form}
use Rattle.value_set.specs.declared.form.Form.TheVariants.{Values, Run}
use Rattle.value_set.specs.Form.{gather, members}
use Rattle.value_set.specs.Joining.{is_in, reach}
use Rattle.value_set.specs.Summing.{single}
use Rattle.mcs51_chip.specs.declared.place.Sfr.{Sfr}
use Rattle.mcs51_chip.specs.declared.place.Sfr.TheVariants.{Sp, Dpl, Dph, Ie, Ip, Psw, Acc, B, Other}
use Rattle.mcs51_chip.specs.Registers.{sfr_at}
use Rattle.mcs51_state.specs.declared.addresses.Addresses.{Addresses}
use Rattle.mcs51_state.specs.declared.addresses.Addresses.TheVariants.{InRam, InSfr}
use Rattle.mcs51_state.specs.declared.fact.Compared.{Compared}
use Rattle.mcs51_state.specs.declared.fact.Compared.TheVariants.{Accumulator, Ram}
use Rattle.mcs51_state.specs.declared.fact.LinearFact.{LinearFact}
use Rattle.mcs51_state.specs.declared.fact.CarryFact.{CarryFact}
use Rattle.mcs51_state.specs.declared.status.Status.{Status}
use Rattle.mcs51_state.specs.Known.{Known}
use Rattle.mcs51_state.specs.Places.{ie_place, ip_place, psw_place}

-- FACTS

-- a fact of the accumulator, unless its byte of RAM may be written
abbrev pub linear_beside : Form → Option LinearFact → Option LinearFact
linear_beside at None = None
linear_beside at (Some fact) = if is_in 256 at fact.place then None else Some fact

-- the byte that CJNE compared may be written by a write to RAM
abbrev pub is_compared_in : Form → Compared → Bool
is_compared_in at Accumulator = false
is_compared_in at (Ram place) = is_in 256 at place

abbrev pub is_accumulator : Compared → Bool
is_accumulator Accumulator = true
is_accumulator (Ram place) = false

-- a fact of CY, unless its byte is a written one
abbrev pub carry_unless : (Compared → Bool) → Option CarryFact → Option CarryFact
carry_unless is_written None = None
carry_unless is_written (Some fact) = if is_written fact.compared then None else Some fact

-- RAM

-- a byte as a cell holds it: a word with the high byte 0
abbrev pub word_of_byte : Byte → Word
word_of_byte byte = record { set = pair_set byte.set (single 0); entry = byte.entry }

-- where one of several addresses is written, each of them holds what it held, or the written byte
abbrev pub cell_joined : CellMap → (at : ℕ) → Word → CellMap
cell_joined map at word = write_one map at 1 (word_join (read map.cells at 1) word)

abbrev pub cells_joined : CellMap → List ℕ → Word → CellMap
cells_joined map [] word = map
cells_joined map (at ∷ rest) word = cells_joined (cell_joined map at word) rest word

-- At one address alone the byte stands there.
abbrev pub cells_written : CellMap → List ℕ → Word → CellMap
cells_written map [] word = map
cells_written map (at ∷ []) word = write_one map at 1 word
cells_written map (at ∷ next ∷ rest) word = cells_joined map (at ∷ next ∷ rest) word

abbrev pub touch_each : List ℕ → List (ℕ × ℕ) → List (ℕ × ℕ)
touch_each [] touched = touched
touch_each (at ∷ rest) touched = touch_each rest (with_range at at touched)

-- each address of a list, of a run all from the first one to the last, and all RAM where the run goes round
abbrev pub touched_behind : Form → List (ℕ × ℕ) → List (ℕ × ℕ)
touched_behind (Values xs) touched = touch_each xs touched
touched_behind (Run p) touched =
    if nat_le 256 (p.base + reach p) then with_range 0 255 touched else with_range p.base (p.base + reach p) touched

-- touched bytes are kept in an interrupt's frame alone
unfoldable pub ram_written : (framed : Bool) → Form → Byte → Known → Known
ram_written framed at byte known = record known {
  linear_fact = linear_beside at known.linear_fact;
  carry_fact = carry_unless (is_compared_in at) known.carry_fact;
  cells = cells_written known.cells (members 256 at) (word_of_byte byte);
  touched = if framed then touched_behind at known.touched else known.touched;
}

-- REGISTERS

-- A register that doesn't hold all of its bits keeps a relation to itself alone. The bits that it doesn't hold are any.
abbrev pub own_masks : (unheld : ℕ) → Entry → Entry
own_masks unheld entry = record { place = entry.place; and = bit_or entry.and unheld; or = bit_and entry.or (65535 - unheld) }

abbrev pub own_entry : (place unheld : ℕ) → Option Entry → Option Entry
own_entry place unheld None = None
own_entry place unheld (Some entry) = if entry.place == place then Some (own_masks unheld entry) else None

-- what IE or IP may be read as: the bits that it doesn't hold make these numbers
abbrev pub own_byte : (place unheld : ℕ) → List ℕ → Byte → Byte
own_byte place unheld others byte = record {
  set = logic_set 8 Or (logic_set 8 And byte.set (single (255 - unheld))) (gather 256 others);
  entry = own_entry place unheld byte.entry;
}

-- PSW holds the bits 2 to 7 of a byte
abbrev pub status_of_byte : Byte → Status
status_of_byte byte = record { bits = drop 2 (known_bits 8 byte.set); entry = own_entry psw_place 3 byte.entry }

-- the fact of CY doesn't stay behind a write of PSW
abbrev pub status_written : Status → Known → Known
status_written status known = record known { psw = status; carry_fact = None }

abbrev pub accumulator_written : Byte → Known → Known
accumulator_written byte known =
    record known { a = byte; linear_fact = None; carry_fact = carry_unless is_accumulator known.carry_fact }

unfoldable pub register_written : Sfr → Byte → Known → Known
register_written Sp byte known = record known { sp = byte.set }
register_written Dpl byte known = record known { dpl = byte }
register_written Dph byte known = record known { dph = byte }
register_written Ie byte known = record known { ie = own_byte ie_place 64 (0 ∷ 64 ∷ []) byte }
register_written Ip byte known = record known { ip = own_byte ip_place 192 (0 ∷ 64 ∷ 128 ∷ 192 ∷ []) byte }
register_written Psw byte known = status_written (status_of_byte byte) known
register_written Acc byte known = accumulator_written byte known
register_written B byte known = record known { b = byte }
register_written Other byte known = known

unfoldable pub byte_written : (framed : Bool) → Addresses → Byte → Known → Known
byte_written framed (InRam at) byte known = ram_written framed at byte known
byte_written framed (InSfr register) byte known = register_written (sfr_at register) byte known

abbrev pub data_pointer_written : (low high : Byte) → Known → Known
data_pointer_written low high known = record known { dpl = low; dph = high }

-- FLAGS

-- Flags that are set drop the relation of PSW, and CY its fact. CY is bit 7 of PSW, AC bit 6 and OV bit 2.
abbrev pub carry_set : Tri → Known → Known
carry_set carry known = status_written (record { bits = slice_set known.psw.bits 5 carry; entry = None }) known

abbrev pub flags_set : (carry half overflow : Tri) → Known → Known
flags_set carry half overflow known =
    status_written (record { bits = slice_set (slice_set (slice_set known.psw.bits 0 overflow) 4 half) 5 carry; entry = None }) known
