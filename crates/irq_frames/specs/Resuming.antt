-- What goes on behind an interrupt's handler: what the handler left, told by the state that the interrupt suspended. A value
-- of the exit that came from a place of that state is again what the place is known to have held.
use Rattle.std.specs.Prelude.{◌≡◌, ℕ, ◌+◌, ◌-◌, ◌<◌, ◌==◌, ◌&&◌, not, if◌then◌else◌, Bool, false, ◌⊎◌, Option, None, Some, List, [], ◌∷◌, Contains, map}
use Rattle.std.specs.List.{filter}
use Rattle.std.specs.Option.{option_map}
use Rattle.value_set.specs.Form.{IsNormal}
use Rattle.value_set.specs.Laws.{IsBelow}
use Rattle.entry_value.specs.declared.cells.Cell.{Cell}
use Rattle.entry_value.specs.declared.word.Entry.{Entry}
use Rattle.entry_value.specs.declared.word.Word.{Word}
use Rattle.entry_value.specs.Words.{Suspended, Reads, HoldsOfWord, entry_and, entry_or, word_and, word_or}
use Rattle.entry_value.specs.Cells.{CellMap, AreCells, number_at, write_one}
use Rattle.irq_frames.specs.Ranges.{has_address}

-- WORDS

-- a relation that keeps each bit of a number, of which the last has all
abbrev pub is_unmasked : (last : ℕ) → Entry → Bool
is_unmasked last entry = (entry.and == last) && (entry.or == 0)

-- a value is what a place held, without a mask
abbrev pub is_itself : (last place : ℕ) → Option Entry → Bool
is_itself last place None = false
is_itself last place (Some entry) = (entry.place == place) && is_unmasked last entry

-- what a place held, behind the masks of a relation
abbrev pub masked_by : Entry → Word → Word
masked_by entry held = if is_unmasked 65535 entry then held else word_or entry.or (word_and entry.and held)

abbrev pub resumed_by : (places : ℕ → Word) → Word → Option Entry → Word
resumed_by places exit None = exit
resumed_by places exit (Some entry) = masked_by entry (places entry.place)

-- a word of the exit, where the places of the suspended state held these words
abbrev pub resumed_word : (places : ℕ → Word) → Word → Word
resumed_word places exit = resumed_by places exit exit.entry

-- CELLS

-- a handler may have changed each byte of a cell, or none
abbrev pub is_all_touched : List (ℕ × ℕ) → (place size : ℕ) → Bool
is_all_touched touched place size = has_address touched place && has_address touched (place + size - 1)

abbrev pub is_untouched : List (ℕ × ℕ) → (place size : ℕ) → Bool
is_untouched touched place size = not (has_address touched place) && not (has_address touched (place + size - 1))

abbrev pub untouched_cells : List (ℕ × ℕ) → List Cell → List Cell
untouched_cells touched = filter (λ cell. is_untouched touched cell.place cell.size)

abbrev pub touched_cells : List (ℕ × ℕ) → List Cell → List Cell
touched_cells touched = filter (λ cell. is_all_touched touched cell.place cell.size)

-- cells with each of some others written in its place
abbrev pub with_written : List Cell → CellMap → CellMap
with_written [] held = held
with_written (cell ∷ cells) held = with_written cells (write_one held cell.place cell.size cell.word)

-- a cell with the word with which it goes on
abbrev pub going_on : (words : Cell → Word) → Cell → Cell
going_on words cell = record { place = cell.place; size = cell.size; word = words cell }

-- The suspended state's cells that no handler touched, and the exit's whose bytes are all touched, with the words with which
-- they go on. What is touched in part goes.
unfoldable pub cells_behind : (words : Cell → Word) → (at exit : CellMap) → (touched : List (ℕ × ℕ)) → CellMap
cells_behind words at exit touched =
    with_written (map (going_on words) (touched_cells touched exit.cells)) (record at { cells = untouched_cells touched at.cells })

-- a byte keeps its set alone: what it says by a relation to a place of two bytes isn't told
abbrev pub resumed_sized : (places : ℕ → Word) → Cell → Word
resumed_sized places cell =
    if cell.size == 1 then record { set = cell.word.set; entry = None } else resumed_word places cell.word

abbrev pub resumed_cells : (places : ℕ → Word) → (at exit : CellMap) → (touched : List (ℕ × ℕ)) → CellMap
resumed_cells places = cells_behind (resumed_sized places)

-- WHAT IS ASKED OF THEM

-- masks of 16 bits
abbrev pub HasMasks : Option Entry → Type 0
HasMasks None = Unit {0}
HasMasks (Some entry) = (entry.and < 65536) × (entry.or < 65536)

-- the relation of what a place held, behind the masks of a relation unless they keep each bit
abbrev pub IsBehind : Entry → (held : Option Entry) → Option Entry → Type 0
IsBehind entry held behind =
    (behind ≡ held) ⊎ (behind ≡ option_map (entry_or entry.or) (option_map (entry_and entry.and) held))

abbrev pub AreNormal : (places : ℕ → Word) → Type 0
AreNormal places = (place : ℕ) → IsNormal 65536 (places place).set

-- The word of the place that a relation names holds of all that the place may be read as. It speaks of the state that was
-- suspended first when this one was.
abbrev pub Tells : (places : ℕ → Word) → (suspended : Suspended) → (first : Option Suspended) → Option Entry → Type 0
Tells places suspended first None = Unit {0}
Tells places suspended first (Some entry) = (word : ℕ) → Reads suspended entry.place word → HoldsOfWord first (places entry.place) word

abbrev pub EachTells : (places : ℕ → Word) → (suspended : Suspended) → (first : Option Suspended) → List Cell → Type 0
EachTells places suspended first cells = (cell : Cell) → Contains cells cell → Tells places suspended first cell.word.entry

pub record IsCellMap (held : CellMap) : Type 0 where
  pub high : held.hi < 65536
  pub are : AreCells held.lo held.hi held.lo held.cells

-- words and cells of an exit that can go on
pub record CanResume (places : ℕ → Word) (exit : CellMap) : Type 0 where
  pub form : IsCellMap exit
  pub normal : AreNormal places
  pub masks : (cell : Cell) → Contains exit.cells cell → HasMasks cell.word.entry

-- a cell of one byte has a byte
abbrev pub IsByteCell : Cell → Type 0
IsByteCell cell = cell.size ≡ 1 → IsBelow 65536 256 cell.word.set

-- a word that a cell of a size can have
pub record FitsCell (size : ℕ) (word : Word) : Type 0 where
  pub normal : IsNormal 65536 word.set
  pub byte : size ≡ 1 → IsBelow 65536 256 word.set

abbrev pub EachFits : (words : Cell → Word) → List Cell → Type 0
EachFits words cells = (cell : Cell) → Contains cells cell → FitsCell cell.size (words cell)

-- the words of cells hold of what stands at their places
abbrev pub EachHolds : Option Suspended → (words : Cell → Word) → (ram : ℕ → ℕ) → List Cell → Type 0
EachHolds first words ram cells = (cell : Cell) → Contains cells cell → HoldsOfWord first (words cell) (number_at ram cell.place cell.size)

-- two RAMs have the same bytes outside the touched ranges
abbrev pub AgreeOutside : (touched : List (ℕ × ℕ)) → (one other : ℕ → ℕ) → Type 0
AgreeOutside touched one other = (at : ℕ) → has_address touched at ≡ false → one at ≡ other at

-- a cell of the suspended state, or one of the exit that goes on
abbrev pub IsFromEither : (words : Cell → Word) → (at exit : List Cell) → Cell → Type 0
IsFromEither words at exit cell = Contains at cell ⊎ ((one : Cell) × Contains exit one × (going_on words one ≡ cell))
