-- Cells of RAM: a dash for none, or each with its place, a dot, its size, a colon and its word, with semicolons between them.
use Rattle.std.specs.Prelude.{◌≡◌, ◌⊎◌, ℕ, ◌+◌, ◌^◌, ◌<◌, ◌==◌, ◌&&◌, ◌||◌, nat_le, not, Bool, true, false, Option, option_map, List, [], ◌∷◌, ◌++◌, codes}
use Rattle.std.specs.List.{AllByRecursion}
use Rattle.std.proofs.Common.{refl, sym, ◌∙◌, inl, inr, arith}
use Rattle.std.proofs.lemmas.Bool.{and_parts, and_from, or_cases, true≢false, leb-true, le-leb, eqb-true, eq-eqb, not-true}
use Rattle.hex_digits.specs.Digits.{hex}
use Rattle.value_set.specs.Form.{IsNormal}
use Rattle.entry_value.specs.declared.cells.Cell.{Cell}
use Rattle.entry_value.specs.declared.word.Word.{Word}
use Rattle.entry_value.specs.Cells.{AreCells, CellMap, IsCell, is_nothing}
use Rattle.plain_lemmas.specs.Cases.{neither}
use Rattle.text_fields.specs.Spelling.{Spelling, IsExact, Avoids, has_byte, has_byte-at, has_byte-left}
use Rattle.text_fields.specs.Numbers.{is_digit, hex_number, hex_number_is_exact, number_avoids}
use Rattle.text_fields.specs.Fields.{byte_differs, passing, passing_is_exact, passing_avoids, beside, beside_is_exact, beside_avoids, told_by, told_by_is_exact, told_by_avoids, restated, restated_is_exact, restated_avoids}
use Rattle.text_fields.specs.Lists.{listed, listed_has, listed_or_mark, listed_or_mark_is_exact, listed_or_mark_avoids}
use Rattle.value_text.specs.Members.{is_byte_set, bytes_only, bytes_back}
use Rattle.value_text.specs.Words.{HasRelation, is_word_byte, word_byte_parts, no_digits, word_field, word_is_exact, word_avoids}

-- THE TESTS

-- whole in RAM from an address to another, of one byte with numbers below 100h or of two, and not saying nothing
abbrev pub is_cell : (lo hi : ℕ) → Cell → Bool
is_cell lo hi cell = nat_le lo cell.place && (nat_le (cell.place + cell.size) (hi + 1) &&
    ((not (cell.size == 1) || is_byte_set cell.word.set) && not (is_nothing cell.size cell.word)))

-- cells ascend from an address on, and none overlaps the next
abbrev pub are_cells : (lo hi from : ℕ) → List Cell → Bool
are_cells lo hi from [] = true
are_cells lo hi from (cell ∷ cells) = is_cell lo hi cell && (nat_le from cell.place && are_cells lo hi (cell.place + cell.size) cells)

-- THE FIELDS

-- one byte or two
abbrev pub size_field : Spelling ℕ
size_field = passing (hex_number 1) (λ size. (size == 1) || (size == 2))

abbrev pub cell_of : (ℕ × ℕ) × Word → Cell
cell_of parts = record { place = parts.0.0; size = parts.0.1; word = parts.1 }

abbrev pub cell_parts : Cell → (ℕ × ℕ) × Word
cell_parts cell = ((cell.place, cell.size), cell.word)

-- a cell that passes a test, with a place of so many digits
abbrev pub cell_field : (digits : ℕ) → Spelling ℕ → (framed : Bool) → (Cell → Bool) → Spelling Cell
cell_field digits place framed test = passing (told_by
    (beside 58 (beside 46 (hex_number digits) size_field) (word_field digits place framed)) cell_of cell_parts) test

-- a cell of any kind
abbrev pub any_cell : (digits : ℕ) → Spelling ℕ → (framed : Bool) → List ℕ → Option Cell
any_cell digits place framed text =
    option_map cell_of ((beside 58 (beside 46 (hex_number digits) size_field) (word_field digits place framed)).value text)

-- each cell passes the test, and has a relation of the frame
abbrev pub AreRelated : (digits : ℕ) → (IsPlace : ℕ → Type 0) → (framed : Bool) → (Cell → Bool) → List Cell → Type 0
AreRelated digits IsPlace framed test [] = Unit {0}
AreRelated digits IsPlace framed test (cell ∷ cells) = HasRelation digits IsPlace framed cell.word.entry × (test cell ≡ true)
    × AreRelated digits IsPlace framed test cells

abbrev pub AreCellsIn : (digits : ℕ) → (IsPlace : ℕ → Type 0) → (framed : Bool) → (Cell → Bool) → (lo hi : ℕ) → List Cell → Type 0
AreCellsIn digits IsPlace framed test lo hi cells = AreCells lo hi lo cells × AreRelated digits IsPlace framed test cells

abbrev pub listed_cells : (digits : ℕ) → Spelling ℕ → (framed : Bool) → (Cell → Bool) → Spelling (List Cell)
listed_cells digits place framed test = listed_or_mark (cell_field digits place framed test) 59 (codes "-")

-- the cells of RAM from an address to another
abbrev pub cells_field : (digits : ℕ) → Spelling ℕ → (framed : Bool) → (Cell → Bool) → (lo hi : ℕ) → Spelling (List Cell)
cells_field digits place framed test lo hi = restated (passing (listed_cells digits place framed test) (are_cells lo hi lo))
    (AreCellsIn digits place.Form framed test lo hi)

-- the text of cells, whatever the frame and the RAM that they lie in
abbrev pub cells_text : (digits : ℕ) → Spelling ℕ → List Cell → List ℕ
cells_text digits place = (listed_cells digits place true (λ cell. true)).text

abbrev pub map_of : (lo hi : ℕ) → List Cell → CellMap
map_of lo hi cells = record { lo = lo; hi = hi; cells = cells }

-- the RAM from an address to another whose cells a text spells
abbrev pub maps_in : (digits : ℕ) → Spelling ℕ → (framed : Bool) → (Cell → Bool) → (lo hi : ℕ) → List ℕ → Option CellMap
maps_in digits place framed test lo hi text = option_map (map_of lo hi) ((cells_field digits place framed test lo hi).value text)

-- a cell has a dot and a colon beside the bytes of its word
abbrev pub is_cells_byte : ℕ → Bool
is_cells_byte at = is_word_byte at || (46 == at) || (58 == at) || (59 == at) || (45 == at)

-- LAWS

byte_test : (one bytes : Bool) → one ≡ true → (not one || bytes) ≡ true → bytes ≡ true
byte_test true bytes is test = test
byte_test false bytes is test = absurd (true≢false (sym is))

byte_passes : (one bytes : Bool) → (one ≡ true → bytes ≡ true) → (not one || bytes) ≡ true
byte_passes true bytes are = are refl
byte_passes false bytes are = refl

not-back : (t : Bool) → t ≡ false → not t ≡ true
not-back true e = absurd (true≢false e)
not-back false e = refl

-- with a size of one or two, and a set in its one form, it is a cell
pub cell_only : (lo hi : ℕ) (cell : Cell) → (cell.size ≡ 1) ⊎ (cell.size ≡ 2) → IsNormal 65536 cell.word.set
    → is_cell lo hi cell ≡ true → IsCell lo hi cell
cell_only lo hi cell size normal test =
    let one = and_parts (nat_le lo cell.place) _ test in
    let two = and_parts (nat_le (cell.place + cell.size) (hi + 1)) _ one.1 in
    let three = and_parts (not (cell.size == 1) || is_byte_set cell.word.set) _ two.1 in
    record {
      size = size;
      low = leb-true lo cell.place one.0;
      high = leb-true (cell.place + cell.size) (hi + 1) two.0;
      normal = normal;
      byte = λ is. bytes_only cell.word.set (byte_test (cell.size == 1) (is_byte_set cell.word.set) (eq-eqb cell.size 1 is) three.0);
      says = not-true (is_nothing cell.size cell.word) three.1;
    }

pub cell_back : (lo hi : ℕ) (cell : Cell) → IsCell lo hi cell → is_cell lo hi cell ≡ true
cell_back lo hi cell is =
    and_from (nat_le lo cell.place) _ (le-leb lo cell.place is.low)
    (and_from (nat_le (cell.place + cell.size) (hi + 1)) _ (le-leb (cell.place + cell.size) (hi + 1) is.high)
    (and_from (not (cell.size == 1) || is_byte_set cell.word.set) _
    (byte_passes (cell.size == 1) (is_byte_set cell.word.set) (λ one. bytes_back cell.word.set is.normal (is.byte (eqb-true cell.size 1 one))))
    (not-back (is_nothing cell.size cell.word) is.says)))

size_only : (size : ℕ) → ((size == 1) || (size == 2)) ≡ true → (size ≡ 1) ⊎ (size ≡ 2)
size_only size test =
    elim (or_cases (size == 1) (size == 2) test) [ inl one ↦ inl (eqb-true size 1 one) | inr two ↦ inr (eqb-true size 2 two) ]

size_back : (size : ℕ) → (size ≡ 1) ⊎ (size ≡ 2) → size_field.Form size
size_back size (inl one) = rw one (omega arith, refl)
size_back size (inr two) = rw two (omega arith, refl)

pub cells_back : (digits : ℕ) (place : Spelling ℕ) (framed : Bool) (test : Cell → Bool) (lo hi from : ℕ)
    → hi < 16 ^ digits → (cells : List Cell)
    → AreCells lo hi from cells
    → AreRelated digits place.Form framed test cells
    → AllByRecursion (cell_field digits place framed test).Form cells × (are_cells lo hi from cells ≡ true)
cells_back digits place framed test lo hi from below [] are related = (tt, refl)
cells_back digits place framed test lo hi from below (cell ∷ cells) are related =
    let is = are.0 in
    let rest = cells_back digits place framed test lo hi (cell.place + cell.size) below cells are.2 related.2 in
    let size = size_back cell.size is.size in
    let inside : cell.place < 16 ^ digits = elim is.size [ inl one ↦ omega (arith, one, is.high) | inr two ↦ omega (arith, two, is.high) ] in (
      (((((inside, size), (is.normal, related.0)), refl), related.1), rest.0),
      and_from (is_cell lo hi cell) _ (cell_back lo hi cell is)
          (and_from (nat_le from cell.place) _ (le-leb from cell.place are.1) rest.1),
    )

cells_only : (digits : ℕ) (place : Spelling ℕ) (framed : Bool) (test : Cell → Bool) (lo hi from : ℕ) (cells : List Cell)
    → AllByRecursion (cell_field digits place framed test).Form cells
    → are_cells lo hi from cells ≡ true → AreCells lo hi from cells × AreRelated digits place.Form framed test cells
cells_only digits place framed test lo hi from [] forms passes = (tt, tt)
cells_only digits place framed test lo hi from (cell ∷ cells) forms passes =
    let one = and_parts (is_cell lo hi cell) _ passes in
    let two = and_parts (nat_le from cell.place) _ one.1 in
    let form = forms.0.0.0 in
    let rest = cells_only digits place framed test lo hi (cell.place + cell.size) cells forms.1 two.1 in
    ((cell_only lo hi cell (size_only cell.size form.0.1.1) form.1.0 one.0, leb-true from cell.place two.0, rest.0), (form.1.1, forms.0.1, rest.1))

size_is_exact : IsExact size_field
size_is_exact = passing_is_exact (hex_number 1) (λ size. (size == 1) || (size == 2)) (hex_number_is_exact 1)

size_avoids : (at : ℕ) → is_digit at ≡ false → Avoids size_field at
size_avoids at no_digit = passing_avoids (hex_number 1) (λ size. (size == 1) || (size == 2)) at (number_avoids 1 at no_digit)

at_is_exact : (digits : ℕ) → IsExact (beside 46 (hex_number digits) size_field)
at_is_exact digits =
    beside_is_exact 46 (hex_number digits) size_field (hex_number_is_exact digits) size_is_exact (number_avoids digits 46 refl)

at_avoids : (digits at : ℕ) → is_digit at ≡ false → (46 == at) ≡ false → Avoids (beside 46 (hex_number digits) size_field) at
at_avoids digits at no_digit no_dot =
    beside_avoids 46 at (hex_number digits) size_field no_dot (number_avoids digits at no_digit) (size_avoids at no_digit)

pub cell_is_exact : (digits : ℕ) (place : Spelling ℕ) (framed : Bool) (test : Cell → Bool) → IsExact place → Avoids place 38
    → IsExact (cell_field digits place framed test)
cell_is_exact digits place framed test h apart =
    let parts = beside 58 (beside 46 (hex_number digits) size_field) (word_field digits place framed) in
    passing_is_exact (told_by parts cell_of cell_parts) test
    (told_by_is_exact parts cell_of cell_parts
    (beside_is_exact 58 (beside 46 (hex_number digits) size_field) (word_field digits place framed) (at_is_exact digits)
    (word_is_exact digits place framed h apart) (at_avoids digits 58 refl refl))
    (λ parts form. refl))

cell_avoids : (digits : ℕ) (place : Spelling ℕ) (framed : Bool) (test : Cell → Bool) (at : ℕ) → is_digit at ≡ false
    → (46 == at) ≡ false → (58 == at) ≡ false
    → is_word_byte at ≡ false → Avoids place at
    → Avoids (cell_field digits place framed test) at
cell_avoids digits place framed test at no_digit no_dot no_colon no_word apart =
    let parts = beside 58 (beside 46 (hex_number digits) size_field) (word_field digits place framed) in
    passing_avoids (told_by parts cell_of cell_parts) test at
    (told_by_avoids parts cell_of cell_parts at
    (beside_avoids 58 at (beside 46 (hex_number digits) size_field) (word_field digits place framed) no_colon (at_avoids digits at no_digit no_dot)
    (word_avoids digits place framed at no_word apart)))

cell_has_dot : (digits : ℕ) (place : Spelling ℕ) (framed : Bool) (test : Cell → Bool) (cell : Cell)
    → (cell_field digits place framed test).Form cell
    → has_byte 46 ((cell_field digits place framed test).text cell) ≡ true
cell_has_dot digits place framed test cell form =
    has_byte-left 46 (hex digits cell.place ++ 46 ∷ size_field.text cell.size) (58 ∷ (word_field digits place framed).text cell.word)
    (has_byte-at 46 (hex digits cell.place) (size_field.text cell.size))

pub cells_is_exact : (digits : ℕ) (place : Spelling ℕ) (framed : Bool) (test : Cell → Bool) (lo hi : ℕ)
    → hi < 16 ^ digits → IsExact place → Avoids place 38
    → Avoids place 59
    → IsExact (cells_field digits place framed test lo hi)
cells_is_exact digits place framed test lo hi below h no_and no_semicolon =
    let cell = cell_field digits place framed test in
    restated_is_exact (passing (listed_cells digits place framed test) (are_cells lo hi lo)) (AreCellsIn digits place.Form framed test lo hi)
    (passing_is_exact (listed_cells digits place framed test) (are_cells lo hi lo)
    (listed_or_mark_is_exact cell 59 (codes "-")
    (λ cells form. byte_differs 46 ((listed cell 59).text cells) (codes "-") false refl
    (λ none. true≢false (sym (listed_has cell 59 46 (cell_has_dot digits place framed test) cells form) ∙ none)))
    (cell_is_exact digits place framed test h no_and) (cell_avoids digits place framed test 59 refl refl refl refl no_semicolon)))
    (λ cells are. cells_back digits place framed test lo hi lo below cells are.0 are.1)
    (λ cells form. cells_only digits place framed test lo hi lo cells form.0 form.1)

cells_byte_parts : (at : ℕ) → is_cells_byte at ≡ false
    → (is_word_byte at ≡ false) × ((46 == at) ≡ false) × ((58 == at) ≡ false) × ((59 == at) ≡ false)
    × ((45 == at) ≡ false)
cells_byte_parts at none =
    let last = neither (is_word_byte at || (46 == at) || (58 == at) || (59 == at)) (45 == at) none in
    let fourth = neither (is_word_byte at || (46 == at) || (58 == at)) (59 == at) last.0 in
    let third = neither (is_word_byte at || (46 == at)) (58 == at) fourth.0 in
    let first = neither (is_word_byte at) (46 == at) third.0 in
    (first.0, first.1, third.1, fourth.1, last.1)

pub cells_avoids : (digits : ℕ) (place : Spelling ℕ) (framed : Bool) (test : Cell → Bool) (lo hi at : ℕ)
    → hi < 16 ^ digits → is_cells_byte at ≡ false
    → Avoids place at → Avoids (cells_field digits place framed test lo hi) at
cells_avoids digits place framed test lo hi at below none apart =
    let parts = cells_byte_parts at none in
    restated_avoids (passing (listed_cells digits place framed test) (are_cells lo hi lo)) (AreCellsIn digits place.Form framed test lo hi) at
    (λ cells are. cells_back digits place framed test lo hi lo below cells are.0 are.1)
    (passing_avoids (listed_cells digits place framed test) (are_cells lo hi lo) at
    (listed_or_mark_avoids (cell_field digits place framed test) 59 (codes "-") at parts.3 (rw parts.4 refl)
    (cell_avoids digits place framed test at (no_digits at (word_byte_parts at parts.0).0) parts.1 parts.2 parts.0 apart)))
