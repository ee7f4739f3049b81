-- Pages of cells: each has the cells whose places lie in its block of 32 addresses.
use Rattle.std.specs.Prelude.{◌≡◌, ◌≢◌, ℕ, ◌+◌, ◌*◌, ◌/◌, ◌%◌, ◌<◌, ◌≤◌, ◌==◌, ◌&&◌, ◌||◌, ◌-◌, nat_lt, not, if◌then◌else◌, Bool, true, false, Option, None, Some, List, [], ◌∷◌, ◌++◌, set}
use Rattle.std.specs.Option.{is_some}
use Rattle.std.specs.List.{filter, insert, remove}
use Rattle.abs_memory.specs.Finding.{keys_below}
use Rattle.entry_value.specs.declared.cells.Cell.{Cell}
use Rattle.entry_value.specs.declared.word.Word.{Word}
use Rattle.entry_value.specs.CellLists.{Each, OfSome}
use Rattle.entry_value.specs.Cells.{AreCells, CellMap, is_nothing, meets, with_cell, write_one}
use Rattle.value_bits.specs.Sets.{high_set}
use Rattle.value_set.specs.declared.form.Form.{Form}

-- a page of the block that begins at 32 times its number
pub record Paged : Type 0 where
  pub number : ℕ
  pub map : CellMap

-- the cells of all pages
abbrev pub flat : List Paged → List Cell
flat [] = []
flat (page ∷ pages) = page.map.cells ++ flat pages

-- how many pages stand in front of the first one whose number is at least another
abbrev pub pages_below : List Paged → (number : ℕ) → ℕ
pages_below = keys_below (λ page. page.number)

abbrev pub has_page : List Paged → (number : ℕ) → Bool
has_page [] number = false
has_page (page ∷ pages) number = if page.number == number then true else has_page pages number

-- the cells of the page of a number; none, where there is no such page
abbrev pub cells_at : List Paged → (number : ℕ) → List Cell
cells_at [] number = []
cells_at (page ∷ pages) number = if page.number == number then page.map.cells else cells_at pages number

-- WHAT PAGES KEEP

abbrev pub EachPage : (Paged → Type 0) → List Paged → Type 0
EachPage P [] = Unit {0}
EachPage P (page ∷ pages) = P page × EachPage P pages

-- the numbers of pages ascend from one on
abbrev pub Rise : (from : ℕ) → List Paged → Type 0
Rise from [] = Unit {0}
Rise from (page ∷ pages) = (from ≤ page.number) × Rise (page.number + 1) pages

-- a page has cells, and the place of each lies in its block
pub record IsPage (page : Paged) : Type 0 where
  pub some : page.map.cells ≢ []
  pub inside : Each (λ cell. cell.place / 32 ≡ page.number) page.map.cells

-- a page is of the RAM from one address to another
abbrev pub HasBounds : (lo hi : ℕ) → Paged → Type 0
HasBounds lo hi page = (page.map.lo ≡ lo) × (page.map.hi ≡ hi)

-- pages in ascending order
pub record ArePages (lo hi : ℕ) (pages : List Paged) : Type 0 where
  pub rise : Rise 0 pages
  pub each : EachPage IsPage pages
  pub bounds : EachPage (HasBounds lo hi) pages

-- the pages of the RAM from one address to another
pub record IsPaged (lo hi : ℕ) (pages : List Paged) : Type 0 where
  pub some : lo ≤ hi
  pub high : hi < 65536
  pub form : ArePages lo hi pages
  pub are : AreCells lo hi lo (flat pages)

-- pages that are read
pub record AreRead (pages : List Paged) : Type 0 where
  pub lo : ℕ
  pub hi : ℕ
  pub rise : Rise 0 pages
  pub each : EachPage IsPage pages
  pub are : AreCells lo hi lo (flat pages)

-- READING

-- the size and the word of the first cell of a place
abbrev pub begun_at : List Cell → (at : ℕ) → Option (ℕ × Word)
begun_at [] at = None
begun_at (cell ∷ cells) at = if cell.place == at then Some (cell.size, cell.word) else begun_at cells at

-- the high byte of what begins at a place, where that has two bytes
abbrev pub high_of : Option (ℕ × Word) → Option Form
high_of None = None
high_of (Some begun) = if begun.0 == 2 then Some (high_set begun.1.set) else None

-- no cell of another page has a byte of what stands at an address: it is neither the first byte of its page, where the page in front may reach over it, nor goes on
-- behind its last one
abbrev pub is_inside : (at size : ℕ) → Bool
is_inside at size = not (at % 32 == 0) && ((size == 1) || not (at % 32 == 31))

-- CHANGING PAGES

abbrev pub is_empty : List Cell → Bool
is_empty [] = true
is_empty (cell ∷ cells) = false

-- what a page makes of its cells: a page of them, unless there are none
abbrev pub MadeOf : Paged → List Cell → Option Paged → Type 0
MadeOf page cells None = cells ≡ []
MadeOf page cells (Some made) = (made ≡ record { number = page.number; map = record page.map { cells = cells } }) × (cells ≢ [])

-- what is made of a cell has its place
abbrev pub KeepsPlaces : (Cell → Option Cell) → Type 0
KeepsPlaces f = (cell : Cell) → OfSome (λ made. made.place ≡ cell.place) (f cell)

-- a page behind a write of a cell
abbrev pub written_page : Paged → Cell → Paged
written_page page cell = record { number = page.number; map = write_one page.map cell.place cell.size cell.word }

-- a new page with one cell written in it
abbrev pub new_page : (number lo hi : ℕ) → Cell → Paged
new_page number lo hi cell = written_page (record { number = number; map = record { lo = lo; hi = hi; cells = [] } }) cell

-- pages with another one at an index, or without the one there where the other one has no cells
abbrev pub with_page_at : (index : ℕ) → Paged → List Paged → List Paged
with_page_at index page pages = if is_empty page.map.cells then remove pages index else set pages index page

-- pages with one more in front of an index, unless it has no cells
abbrev pub with_page_in : (index : ℕ) → Paged → List Paged → List Paged
with_page_in index page pages = if is_empty page.map.cells then pages else insert pages index page

-- a cell doesn't lie whole in RAM, or says nothing
abbrev pub is_left_out : (lo hi : ℕ) → Cell → Bool
is_left_out lo hi cell = nat_lt cell.place lo || nat_lt hi (cell.place + cell.size - 1) || is_nothing cell.size cell.word

-- a cell isn't both in a page and met by one that is written
abbrev pub stays : (number : ℕ) → (written : Cell) → Cell → Bool
stays number written cell = not ((cell.place / 32 == number) && meets written.place written.size cell)

-- a write meets a cell that reaches into its page, or the first one of the next page
abbrev pub is_met_beside : List Cell → (at size : ℕ) → Bool
is_met_beside cells at size =
    ((at % 32 == 0) && is_some (high_of (begun_at cells (at - 1))))
    || ((size == 2) && ((at % 32 == 31) && is_some (begun_at cells ((at + 1) % 65536))))

-- the address in front of a page
abbrev pub before_page : (number : ℕ) → ℕ
before_page number = (number * 32 % 65536 + 65535) % 65536

-- cells in which one is written
abbrev pub with_written : (lo hi : ℕ) → Cell → List Cell → List Cell
with_written lo hi cell cells = with_cell lo hi cell (filter (λ one. not (meets cell.place cell.size one)) cells)
