-- Pages: what stands in one block of 32 addresses of RAM, written once. A text of a state names each of its blocks by the
-- number of a page, in the place of the cells.
use Rattle.std.specs.Prelude.{◌≡◌, ℕ, suc, ◌+◌, ◌/◌, ◌==◌, ◌&&◌, ◌||◌, nat_le, not, if◌then◌else◌, Bool, true, false, Option, None, Some, option_map, option_and_then, List, [], ◌∷◌, ◌++◌, codes, map}
use Rattle.std.specs.List.{join_with_byte, list_all, slice_split}
use Rattle.std.specs.Str.{bytes_eq}
use Rattle.text_fields.specs.Spelling.{has_byte}
use Rattle.state_text.specs.Cells.{Parts, ascend, cells_in, loose_cell, whole}
use Rattle.cert_pages.specs.Numbers.{name_of}

-- the cells of one block, with semicolons between them
abbrev pub Page : Type 0
Page = List ℕ

-- the parts of a text between such bytes
abbrev pub cut_by : (at : ℕ) → List ℕ → List (List ℕ)
cut_by at text = slice_split (λ b. b == at) text

-- BLOCKS

abbrev pub place_by : Option ((ℕ × ℕ) × List ℕ) → ℕ
place_by None = 0
place_by (Some cell) = cell.0.0

-- the block of the first cell of a text
unfoldable pub block_in : (digits : ℕ) → List ℕ → ℕ
block_in digits text = place_by ((loose_cell digits).value text) / 32

-- the place of a cell, if it is in the block, and not below an address
abbrev pub place_from : (from block : ℕ) → Option ((ℕ × ℕ) × List ℕ) → Option ℕ
place_from from block None = None
place_from from block (Some cell) = if nat_le from cell.0.0 && (cell.0.0 / 32 == block) then Some cell.0.0 else None

abbrev pub next_place : (digits : ℕ) → (cell : List ℕ) → (from block : ℕ) → Option ℕ
next_place digits cell from block = place_from from block ((loose_cell digits).value cell)

-- all cells are in the block of the first
abbrev pub in_one_block : (digits : ℕ) → (page : List ℕ) → Bool
in_one_block digits page = list_all (λ cell. block_in digits cell == block_in digits page) (cut_by 59 page)

-- one cell at least, ascending, in one block, without a space
abbrev pub is_page : (digits : ℕ) → (text : List ℕ) → Bool
is_page digits text = not (has_byte 32 text) && (ascend digits 0 (cut_by 59 text) && in_one_block digits text)

-- a cell in front of pages: on the first where that is of its block
abbrev pub onto_pages : (digits : ℕ) → (cell : List ℕ) → List Page → List Page
onto_pages digits cell [] = cell ∷ []
onto_pages digits cell (page ∷ pages) =
    if block_in digits cell == block_in digits page then (cell ++ 59 ∷ page) ∷ pages else cell ∷ page ∷ pages

abbrev pub pages_of : (digits : ℕ) → (cells : List (List ℕ)) → List Page
pages_of digits [] = []
pages_of digits (cell ∷ cells) = onto_pages digits cell (pages_of digits cells)

-- a dash for none
abbrev pub pages_within : (digits : ℕ) → (cells : List ℕ) → List Page
pages_within digits cells = if bytes_eq cells (codes "-") then [] else pages_of digits (cut_by 59 cells)

abbrev pub pages_by : (digits : ℕ) → Option Parts → List Page
pages_by digits None = []
pages_by digits (Some parts) = pages_within digits parts.1

-- the pages of a text
abbrev pub pages_on : (digits : ℕ) → (text : List ℕ) → List Page
pages_on digits text = pages_by digits (cells_in text)

-- PAGES IN THE ORDER OF THEIR FIRST USE

abbrev pub has_page : List Page → Page → Bool
has_page [] page = false
has_page (first ∷ pages) page = bytes_eq first page || has_page pages page

abbrev pub with_page : List Page → Page → List Page
with_page pages page = if has_page pages page then pages else pages ++ page ∷ []

abbrev pub with_pages : List Page → List Page → List Page
with_pages pages [] = pages
with_pages pages (page ∷ more) = with_pages (with_page pages page) more

-- the pages of texts in order, each once
abbrev pub with_texts : (digits : ℕ) → List Page → List (List ℕ) → List Page
with_texts digits pages [] = pages
with_texts digits pages (text ∷ texts) = with_texts digits (with_pages pages (pages_on digits text)) texts

-- the parts of a text with more in front
abbrev pub behind_front : (front : List ℕ) → Parts → Parts
behind_front front parts = (front ++ parts.0, parts.1, parts.2)

-- NAMED

-- the number of a page, counted from another one
abbrev pub number_in : (from : ℕ) → List Page → Page → ℕ
number_in from [] page = from
number_in from (first ∷ pages) page = if bytes_eq first page then from else number_in (suc from) pages page

abbrev pub page_name : List Page → Page → List ℕ
page_name pages page = name_of (number_in 0 pages page)

-- the numbers of pages, the first of which is this one
abbrev pub names_from : (number : ℕ) → List Page → List (List ℕ)
names_from number [] = []
names_from number (page ∷ pages) = name_of number ∷ names_from (suc number) pages

-- texts with such a byte between each two, or a dash for none
abbrev pub dashed : (at : ℕ) → List (List ℕ) → List ℕ
dashed at [] = codes "-"
dashed at (text ∷ texts) = join_with_byte at (text ∷ texts)

abbrev pub named_by : (digits : ℕ) → List Page → (text : List ℕ) → Option Parts → List ℕ
named_by digits pages text None = text
named_by digits pages text (Some parts) =
    whole (parts.0, dashed 44 (map (page_name pages) (pages_within digits parts.1)), parts.2)

-- a text with the numbers of its pages in the place of the cells
unfoldable pub named_in : (digits : ℕ) → List Page → (text : List ℕ) → List ℕ
named_in digits pages text = named_by digits pages text (cells_in text)

-- FILLED

-- the first page of which this is the number, with the number
abbrev pub page_at : (from : ℕ) → List Page → (name : List ℕ) → Option (ℕ × Page)
page_at from [] name = None
page_at from (page ∷ pages) name = if bytes_eq name (name_of from) then Some (from, page) else page_at (suc from) pages name

-- Pages are used first in the order of their numbers. What was read with pages in it, how many of them have been used, and
-- whether none was named before its turn.
pub record Filled (T : Type 0) : Type 0 where
  pub read : T
  pub used : ℕ
  pub in_turn : Bool

abbrev pub used_with : (used number : ℕ) → ℕ
used_with used number = if number == used then suc used else used

abbrev pub before : (used : ℕ) → ℕ × Page → Filled (List Page) → Filled (List Page)
before used found later = record {
  read = found.1 ∷ later.read;
  used = later.used;
  in_turn = nat_le found.0 used && later.in_turn;
}

-- the pages with these numbers, whose blocks ascend from one on
abbrev pub pages_named : (digits : ℕ) → List Page → (used least : ℕ) → (names : List (List ℕ)) → Option (Filled (List Page))
pages_named digits pages used least [] = Some (record { read = []; used = used; in_turn = true })
pages_named digits pages used least (name ∷ names) =
    option_and_then (λ (found : ℕ × Page). if nat_le least (block_in digits found.1)
    then option_map (before used found) (pages_named digits pages (used_with used found.0) (block_in digits found.1 + 1) names)
    else None) (page_at 0 pages name)

-- the page with this number, and the number, unless its block is below another one
abbrev pub unless_below : (digits least : ℕ) → ℕ × Page → Option (ℕ × Page)
unless_below digits least found = if nat_le least (block_in digits found.1) then Some found else None

abbrev pub next_page : (digits : ℕ) → List Page → (least : ℕ) → (name : List ℕ) → Option (ℕ × Page)
next_page digits pages least name = option_and_then (unless_below digits least) (page_at 0 pages name)

-- cells of pages, each behind a semicolon
abbrev pub cells_text : List Page → List ℕ
cells_text [] = []
cells_text (page ∷ pages) = 59 ∷ (page ++ cells_text pages)

-- without the first semicolon, or a dash for none
abbrev pub dashed_cells : List ℕ → List ℕ
dashed_cells [] = codes "-"
dashed_cells (b ∷ cells) = cells

abbrev pub onto_named : (text : List ℕ) → (in_turn : Bool) → Filled (List Page) → Filled (List ℕ)
onto_named text in_turn found = record { read = text ++ cells_text found.read; used = found.used; in_turn = in_turn && found.in_turn }

-- the names that are left
abbrev pub left : Option (List ℕ) → List (List ℕ)
left None = []
left (Some names) = cut_by 44 names

-- a dash for none
abbrev pub names_in : List ℕ → List (List ℕ)
names_in text = if bytes_eq text (codes "-") then [] else cut_by 44 text

abbrev pub with_cells : Parts → Filled (List Page) → Filled (List ℕ)
with_cells parts found = record {
  read = whole (parts.0, dashed 59 found.read, parts.2);
  used = found.used;
  in_turn = found.in_turn;
}

abbrev pub filled_by : (digits : ℕ) → List Page → (used : ℕ) → (text : List ℕ) → Option Parts → Option (Filled (List ℕ))
filled_by digits pages used text None = Some (record { read = text; used = used; in_turn = true })
filled_by digits pages used text (Some parts) = option_map (with_cells parts) (pages_named digits pages used 0 (names_in parts.1))

-- a text with the cells in the place of the numbers, if they are the numbers of pages and the blocks ascend
unfoldable pub filled : (digits : ℕ) → List Page → (used : ℕ) → (text : List ℕ) → Option (Filled (List ℕ))
filled digits pages used text = filled_by digits pages used text (cells_in text)
