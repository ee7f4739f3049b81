-- What is known of a RAM: cells of one or two bytes, in ascending order of their places. Of a byte without a cell nothing
-- is known.
use Rattle.std.specs.Prelude.{◌≡◌, ℕ, ◌+◌, ◌-◌, ◌*◌, ◌/◌, ◌%◌, ◌<◌, ◌≤◌, ◌==◌, ◌&&◌, ◌||◌, nat_lt, nat_le, not, if◌then◌else◌, Bool, true, false, ◌⊎◌, Option, None, Some, List, [], ◌∷◌, Contains, slice_index}
use Rattle.std.specs.List.{filter}
use Rattle.std.specs.Option.{is_none}
use Rattle.value_set.specs.Form.{Has, IsNormal, make, members}
use Rattle.value_set.specs.Joining.{is_in, is_within}
use Rattle.value_set.specs.Summing.{single, count_of}
use Rattle.value_set.specs.Widening.{widen}
use Rattle.value_set.specs.declared.form.Form.{Form}
use Rattle.value_bits.specs.Sets.{low_set, high_set, pair_set}
use Rattle.entry_value.specs.declared.word.Word.{Word}
use Rattle.entry_value.specs.declared.cells.Cell.{Cell}
use Rattle.entry_value.specs.Words.{Suspended, HoldsOfWord, common_entry, word_join, word_widen, word_within}

-- the cells of the RAM from one address to another
pub record CellMap : Type 0 where
  pub lo : ℕ
  pub hi : ℕ
  pub cells : List Cell

-- WHAT CELLS SAY

-- what stands in a RAM at a place, in one byte or in two, the low one first
abbrev pub number_at : (ℕ → ℕ) → (place size : ℕ) → ℕ
number_at ram place size = if size == 1 then ram place else ram place + 256 * ram ((place + 1) % 65536)

-- a RAM of bytes stands under the cells, where each cell holds of what stands at its place
abbrev pub StandsUnder : Option Suspended → List Cell → (ℕ → ℕ) → Type 0
StandsUnder first cells ram = ((at : ℕ) → ram at < 256)
    × ((cell : Cell) → Contains cells cell → HoldsOfWord first cell.word (number_at ram cell.place cell.size))

-- FORM

-- nothing is known of one byte, or of two
abbrev pub any_of : (size : ℕ) → Form
any_of size = if size == 1 then make 65536 0 1 256 else make 65536 0 1 65536

abbrev pub unknown : (size : ℕ) → Word
unknown size = record { set = any_of size; entry = None }

-- Whether a value says nothing: it has no relation, and each number.
abbrev pub is_nothing : (size : ℕ) → Word → Bool
is_nothing size word = is_within 65536 (any_of size) word.set && is_none word.entry

-- a cell has one byte or two, whole in RAM, and says something; that of one byte has numbers below 100h
pub record IsCell (lo hi : ℕ) (cell : Cell) : Type 0 where
  pub size : (cell.size ≡ 1) ⊎ (cell.size ≡ 2)
  pub low : lo ≤ cell.place
  pub high : cell.place + cell.size ≤ hi + 1
  pub normal : IsNormal 65536 cell.word.set
  pub byte : cell.size ≡ 1 → (v : ℕ) → Has 65536 cell.word.set v → v < 256
  pub says : is_nothing cell.size cell.word ≡ false

-- cells ascend from an address on, and none overlaps the next
abbrev pub AreCells : (lo hi from : ℕ) → List Cell → Type 0
AreCells lo hi from [] = Unit {0}
AreCells lo hi from (cell ∷ cells) = IsCell lo hi cell × (from ≤ cell.place) × AreCells lo hi (cell.place + cell.size) cells

-- READING

-- the cell of a place and a size
abbrev pub cell_at : List Cell → (place size : ℕ) → Option Word
cell_at [] place size = None
cell_at (cell ∷ cells) place size =
    if (cell.place == place) && (cell.size == size) then Some cell.word else cell_at cells place size

-- a cell has the byte of an address
abbrev pub has_byte : Cell → ℕ → Bool
has_byte cell at = nat_le cell.place at && nat_lt at (cell.place + cell.size)

-- the byte at an address, as far as the cell that has it says
abbrev pub byte_at : List Cell → ℕ → Option Form
byte_at [] at = None
byte_at (cell ∷ cells) at =
    if has_byte cell at then Some (if at == cell.place then low_set cell.word.set else high_set cell.word.set)
    else byte_at cells at

abbrev pub word_of_byte : Option Form → Form
word_of_byte None = any_of 1
word_of_byte (Some byte) = pair_set byte (single 0)

abbrev pub word_of_bytes : Option Form → Option Form → Form
word_of_bytes None high = any_of 2
word_of_bytes (Some low) None = any_of 2
word_of_bytes (Some low) (Some high) = pair_set low high

-- what is put together from the parts of cells, without a relation
abbrev pub put_together : List Cell → (at size : ℕ) → Word
put_together cells at size = record {
  set = if size == 1 then word_of_byte (byte_at cells at) else word_of_bytes (byte_at cells at) (byte_at cells ((at + 1) % 65536));
  entry = None;
}

abbrev pub found_or : Option Word → Word → Word
found_or None otherwise = otherwise
found_or (Some word) otherwise = word

-- the cell of that size, else what is put together
unfoldable pub read : List Cell → (at size : ℕ) → Word
read cells at size = found_or (cell_at cells at size) (put_together cells at size)

-- WRITING

-- a RAM behind a write of a number at an address, in one byte or in two
unfoldable pub written : (ℕ → ℕ) → (at size v : ℕ) → ℕ → ℕ
written ram at size v address =
    if address == at then v % 256 else if (size == 2) && (address == (at + 1) % 65536) then v / 256 else ram address

-- an access of a size at an address meets a cell, where it has a byte of it
abbrev pub meets : (at size : ℕ) → Cell → Bool
meets at size cell = has_byte cell at || ((size == 2) && has_byte cell ((at + 1) % 65536))

-- a cell in front of the first one that has a greater place
abbrev pub insert : Cell → List Cell → List Cell
insert cell [] = cell ∷ []
insert cell (c ∷ cs) = if nat_lt cell.place c.place then cell ∷ c ∷ cs else c ∷ insert cell cs

-- cells with one more in its place, where it lies whole in RAM and says something
abbrev pub with_cell : (lo hi : ℕ) → Cell → List Cell → List Cell
with_cell lo hi cell cells =
    if nat_lt cell.place lo || nat_lt hi (cell.place + cell.size - 1) || is_nothing cell.size cell.word then cells
    else insert cell cells

-- A value written at one address: the cells that it meets go, and it has a cell of its own.
unfoldable pub write_one : CellMap → (at size : ℕ) → Word → CellMap
write_one map at size word = record {
  lo = map.lo;
  hi = map.hi;
  cells = with_cell map.lo map.hi (record { place = at; size = size; word = word }) (filter (λ cell. not (meets at size cell)) map.cells);
}

-- an access at one of the addresses has a byte of the cell, and isn't at the cell's own place
abbrev pub meets_beside : Form → (size : ℕ) → Cell → Bool
meets_beside at size cell =
    ((cell.size == 2) && is_in 65536 at (cell.place + 1)) || ((size == 2) && is_in 65536 at ((cell.place + 65535) % 65536))

-- the cell, where it says something
abbrev pub telling : Cell → Option Cell
telling cell = if is_nothing cell.size cell.word then None else Some cell

-- a cell behind a write at some of the addresses: as it was where none of them has a byte of it, the join with the value
-- where it is the only place of that size that can be written, and else nothing is known
abbrev pub cell_behind : Form → (size : ℕ) → Word → Cell → Option Cell
cell_behind at size word cell =
    if meets_beside at size cell then None
    else if not (is_in 65536 at cell.place) then Some cell
    else if cell.size == size then telling (record { place = cell.place; size = size; word = word_join cell.word word })
    else None

abbrev pub with_some : Option Cell → List Cell → List Cell
with_some None cells = cells
with_some (Some cell) cells = cell ∷ cells

abbrev pub kept : (Cell → Option Cell) → List Cell → List Cell
kept f [] = []
kept f (cell ∷ cells) = with_some (f cell) (kept f cells)

-- a value written at one of several addresses
unfoldable pub write_several : CellMap → Form → (size : ℕ) → Word → CellMap
write_several map at size word = record { lo = map.lo; hi = map.hi; cells = kept (cell_behind at size word) map.cells }

-- A value written at one of the addresses of a set. Where that has one address alone, the value stands there.
unfoldable pub write_any : CellMap → Form → (size : ℕ) → Word → CellMap
write_any map at size word =
    if count_of 65536 at == 1 then write_one map (slice_index (members 65536 at) 0) size word
    else write_several map at size word

-- JOINING

abbrev pub both_of : (Word → Word → Word) → Cell → Option Word → Option Cell
both_of f cell None = None
both_of f cell (Some word) = telling (record { place = cell.place; size = cell.size; word = f cell.word word })

-- what two cells of a place and a size make, where there are both
abbrev pub with_both : (Word → Word → Word) → List Cell → Cell → Option Cell
with_both f others cell = both_of f cell (cell_at others cell.place cell.size)

unfoldable pub join_cells : List Cell → List Cell → List Cell
join_cells held new = kept (with_both word_join new) held

-- a word widened as a byte, by the marks below 100h
abbrev pub byte_widened : Word → Word → List ℕ → Word
byte_widened held new marks = record {
  set = if is_within 65536 new.set held.set then held.set
      else pair_set (widen 256 (low_set held.set) (low_set new.set) (filter (λ mark. nat_lt mark 256) marks)) (single 0);
  entry = common_entry held.entry new.entry;
}

abbrev pub cell_widened : List ℕ → List Cell → Cell → Option Cell
cell_widened marks new cell =
    if cell.size == 1 then with_both (λ h n. byte_widened h n marks) new cell else with_both (λ h n. word_widen h n marks) new cell

unfoldable pub widen_cells : List Cell → List Cell → List ℕ → List Cell
widen_cells held new marks = kept (cell_widened marks new) held

abbrev pub is_found_within : Option Word → Word → Bool
is_found_within None held = false
is_found_within (Some new) held = word_within new held

-- each cell of the second is in the first, with the same place and size, and within there
abbrev pub are_within : (new held : List Cell) → Bool
are_within new [] = true
are_within new (cell ∷ cells) = is_found_within (cell_at new cell.place cell.size) cell.word && are_within new cells

-- WALKING

-- the first cell whose place is at least an address
abbrev pub next : List Cell → (from : ℕ) → Option Cell
next [] from = None
next (cell ∷ cells) from = if nat_lt cell.place from then next cells from else Some cell
