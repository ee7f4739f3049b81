-- Cells over which words are written, each in its place.
use Rattle.std.specs.Prelude.{◌≡◌, ◌⊎◌, Option, None, Some}
use Rattle.entry_value.specs.declared.cells.Cell.{Cell}
use Rattle.entry_value.specs.declared.word.Word.{Word}
use Rattle.entry_value.specs.Cells.{CellMap, telling, write_one}

abbrev pub with_word : Cell → Word → Cell
with_word cell word = record { place = cell.place; size = cell.size; word = word }

-- what becomes of a cell over which a word is written, or that stays
abbrev pub IsOver : (made : Option Cell) → Cell → Option Word → Type 0
IsOver made cell None = made ≡ Some cell
IsOver made cell (Some word) = made ≡ telling (with_word cell word)

-- cells where one becomes another: it stays, or a word is written over it
abbrev pub IsRewritten : (made : Option Cell) → Cell → (before after : CellMap) → Type 0
IsRewritten made cell before after = ((made ≡ Some cell) × (after ≡ before))
    ⊎ ((word : Word) × (made ≡ telling (with_word cell word)) × (after ≡ write_one before cell.place cell.size word))
