-- Cells that are gone over by their places, and cells that are written one behind another.
use Rattle.std.proofs.Common.{◌≡◌, ℕ, zero, suc, ◌+◌, ◌-◌, ◌%◌, ◌<◌, ◌≤◌, false, Option, None, Some, List, [], ◌∷◌, ◌++◌, length, take, get_or, refl, sym, ap, ◌∙◌, subst, inl, inr, arith, nat_lt, append_assoc}
use Rattle.std.specs.Prelude.{◌⊎◌, ◌==◌, if◌then◌else◌, nat_le, not, option_map, codes}
use Rattle.std.specs.List.{filter, AllByRecursion}
use Rattle.std.proofs.lemmas.Bool.{cases_Bool, and_right, eqb-true, lt-ltb, le-ltb, ltb-false}
use Rattle.std.proofs.lemmas.List.{append-nil, take_more}
use Rattle.std.proofs.lemmas.Option.{none-some, same_Some}
use Rattle.entry_value.specs.declared.cells.Cell.{Cell}
use Rattle.entry_value.specs.declared.word.Word.{Word}
use Rattle.entry_value.specs.Cells.{CellMap, AreCells, IsCell, has_byte, insert, meets, next, write_one}
use Rattle.value_set.specs.Form.{Has}
use Rattle.value_text.specs.Cells.{map_of}
use Rattle.text_fields.specs.Spelling.{Spelling}
use Rattle.text_fields.specs.Fields.{marked_text}
use Rattle.text_fields.specs.Lists.{listed, listed_others, none_or, others_text}

-- GOING OVER CELLS

-- the cells from an address on
abbrev pub left : (from : ℕ) → List Cell → List Cell
left from [] = []
left from (cell ∷ cells) = if nat_lt cell.place from then left from cells else cell ∷ cells

some_bytes : (lo hi : ℕ) (cell : Cell) → IsCell lo hi cell → 1 ≤ cell.size
some_bytes lo hi cell is = elim is.size [ inl one ↦ omega (arith, one) | inr two ↦ omega (arith, two) ]

left_none : (from : ℕ) (cells : List Cell) → next cells from ≡ None → left from cells ≡ []
left_none from [] is = refl
left_none from (cell ∷ cells) is = elim (cases_Bool (nat_lt cell.place from)) [
  | inl before ↦ rw before (left_none from cells (rw before at is))
  | inr here ↦ absurd (none-some cell (sym (rw here at is)))
]

left_all : (lo hi from : ℕ) (cells : List Cell) → AreCells lo hi from cells → left from cells ≡ cells
left_all lo hi from [] are = refl
left_all lo hi from (cell ∷ cells) are = rw (le-ltb cell.place from are.1) refl

left_first : (cells : List Cell) → left 0 cells ≡ cells
left_first [] = refl
left_first (cell ∷ cells) = rw (le-ltb cell.place 0 (omega arith)) refl

-- the next cell stands behind all that are passed
next_low : (lo hi low from : ℕ) (cells : List Cell) (cell : Cell) → AreCells lo hi low cells
    → next cells from ≡ Some cell → low ≤ cell.place
next_low lo hi low from [] cell are is = absurd (none-some cell is)
next_low lo hi low from (first ∷ cells) cell are is = elim (cases_Bool (nat_lt first.place from)) [
  | inl before ↦ omega (arith, are.1, next_low lo hi (first.place + first.size) from cells cell are.2 (rw before at is))
  | inr here ↦ subst (λ (c : Cell). low ≤ c.place) (same_Some first cell (rw here at is)) are.1
]

left_next : (lo hi low from : ℕ) (cells : List Cell) (cell : Cell) → AreCells lo hi low cells → next cells from ≡ Some cell
    → left from cells ≡ cell ∷ left (cell.place + cell.size) cells
left_next lo hi low from [] cell are is = absurd (none-some cell is)
left_next lo hi low from (first ∷ cells) cell are is = elim (cases_Bool (nat_lt first.place from)) [
  | inl before ↦
      let rest : next cells from ≡ Some cell = rw before at is in
      let some = some_bytes lo hi first are.0 in
      let low_one = next_low lo hi (first.place + first.size) from cells cell are.2 rest in
      rw (before, lt-ltb first.place (cell.place + cell.size) (omega (arith, some, low_one)))
      (left_next lo hi (first.place + first.size) from cells cell are.2 rest)
  | inr here ↦
      let some = some_bytes lo hi first are.0 in
      subst (λ (c : Cell). left from (first ∷ cells) ≡ c ∷ left (c.place + c.size) (first ∷ cells)) (same_Some first cell (rw here at is))
      (rw (here, lt-ltb first.place (first.place + first.size) (omega (arith, some)), left_all lo hi (first.place + first.size) cells are.2) refl)
]

abbrev pub Found : Type 0
Found = ℕ × ℕ × Word

abbrev pub found_of : Cell → Found
found_of cell = (cell.place, cell.size, cell.word)

abbrev pub the_cell : (place size : ℕ) → Word → Cell
the_cell place size word = record { place = place; size = size; word = word }

abbrev cell_found : Found → Cell
cell_found found = the_cell found.0 found.1 found.2

found_cell : (one : Option Cell) (found : Found) → Some found ≡ option_map found_of one → one ≡ Some (cell_found found)
found_cell None found e = absurd (none-some found (sym e))
found_cell (Some cell) found e = ap (λ f. Some (cell_found f)) (same_Some (found_of cell) found (sym e))

nothing_found : (one : Option Cell) → None ≡ option_map found_of one → one ≡ None
nothing_found None e = refl
nothing_found (Some cell) e = absurd (none-some (found_of cell) e)

-- WRITING THEIR TEXTS

-- the first cell
pub texts_begin : (s : Spelling Cell) (map : CellMap) (place size : ℕ) (word : Word) (old out : List ℕ)
    → AreCells map.lo map.hi map.lo map.cells
    → Some (place, size, word) ≡ option_map found_of (next map.cells 0) → out ≡ old ++ s.text (the_cell place size word)
    → out ++ others_text s 59 (left (place + size) map.cells) ≡ old ++ (listed s 59).text map.cells
texts_begin s map place size word old out are is pushed =
    let cell = the_cell place size word in
    let at = found_cell (next map.cells 0) (place, size, word) is in
    let whole : map.cells ≡ cell ∷ left (place + size) map.cells = sym (left_first map.cells) ∙ left_next map.lo map.hi map.lo 0 map.cells cell are at in
    ap (λ (t : List ℕ). t ++ others_text s 59 (left (place + size) map.cells)) pushed
    ∙ append_assoc old (s.text cell) (others_text s 59 (left (place + size) map.cells))
    ∙ ap (λ (t : List ℕ). old ++ t) (sym (listed_others s 59 cell (left (place + size) map.cells)) ∙ ap (listed s 59).text (sym whole))

-- the next one, behind a semicolon
pub texts_go_on : (s : Spelling Cell) (map : CellMap) (from place size : ℕ) (word : Word) (all before between out : List ℕ)
    → AreCells map.lo map.hi map.lo map.cells
    → Some (place, size, word) ≡ option_map found_of (next map.cells from) → before ++ others_text s 59 (left from map.cells) ≡ all
    → between ≡ before ++ 59 ∷ [] → out ≡ between ++ s.text (the_cell place size word)
    → out ++ others_text s 59 (left (place + size) map.cells) ≡ all
texts_go_on s map from place size word all before between out are is so_far parted pushed =
    let cell = the_cell place size word in
    let rest = others_text s 59 (left (place + size) map.cells) in
    let at = found_cell (next map.cells from) (place, size, word) is in
    ap (λ (t : List ℕ). t ++ rest) (pushed ∙ ap (λ (t : List ℕ). t ++ s.text cell) parted)
    ∙ append_assoc (before ++ 59 ∷ []) (s.text cell) rest ∙ append_assoc before (59 ∷ []) (s.text cell ++ rest)
    ∙ ap (λ (cells : List Cell). before ++ others_text s 59 cells) (sym (left_next map.lo map.hi map.lo from map.cells cell are at)) ∙ so_far

pub texts_end : (s : Spelling Cell) (map : CellMap) (from : ℕ) (all out : List ℕ) → None ≡ option_map found_of (next map.cells from)
    → out ++ others_text s 59 (left from map.cells) ≡ all → out ≡ all
texts_end s map from all out is so_far =
    sym (append-nil out) ∙ ap (λ (cells : List Cell). out ++ others_text s 59 cells) (sym (left_none from map.cells (nothing_found
    (next map.cells from) is))) ∙ so_far

-- WRITING CELLS

abbrev EndBy : (at : ℕ) → List Cell → Type 0
EndBy at cells = AllByRecursion (λ cell. (1 ≤ cell.size) × (cell.place + cell.size ≤ at)) cells

ends_before : (at : ℕ) (cell : Cell) → cell.place + cell.size ≤ at → has_byte cell at ≡ false
ends_before at cell ends = and_right (nat_le cell.place at) (nat_lt at (cell.place + cell.size)) (le-ltb at (cell.place + cell.size) ends)

-- an access behind a cell doesn't meet it
unmet : (at size : ℕ) (cell : Cell) → at + size ≤ 65536 → cell.place + cell.size ≤ at → meets at size cell ≡ false
unmet at size cell inside ends = rw (ends_before at cell ends) (elim (cases_Bool (size == 2)) [
  | inl two ↦
      let next_one : (at + 1) % 65536 ≡ at + 1 = omega (arith, eqb-true size 2 two, inside) in
      rw (two, next_one) (ends_before (at + 1) cell (omega (arith, ends)))
  | inr other ↦ rw other refl
])

none_met : (at size : ℕ) (cells : List Cell) → at + size ≤ 65536 → EndBy at cells → filter (λ cell. not (meets at size cell)) cells ≡ cells
none_met at size [] inside ends = refl
none_met at size (cell ∷ cells) inside ends = rw (unmet at size cell inside ends.0.1)
    (ap (λ (rest : List Cell). cell ∷ rest) (none_met at size cells inside ends.1))

insert_last : (cell : Cell) (cells : List Cell) → EndBy cell.place cells → insert cell cells ≡ cells ++ cell ∷ []
insert_last cell [] ends = refl
insert_last cell (first ∷ cells) ends = rw (le-ltb cell.place first.place (omega (arith, ends.0.1)))
    (ap (λ (rest : List Cell). first ∷ rest) (insert_last cell cells ends.1))

-- a cell goes behind those in front of it
written_last : (lo hi : ℕ) (cell : Cell) (cells : List Cell) → hi < 65536 → IsCell lo hi cell → EndBy cell.place cells
    → write_one (record { lo = lo; hi = hi; cells = cells }) cell.place cell.size cell.word ≡ record { lo = lo; hi = hi; cells = cells ++ cell ∷ [] }
unfolding write_one
written_last lo hi cell cells top is ends =
    let low : nat_lt cell.place lo ≡ false = le-ltb cell.place lo is.low in
    let high : nat_lt hi (cell.place + cell.size - 1) ≡ false = le-ltb hi (cell.place + cell.size - 1) (omega (arith, is.high)) in
    rw (none_met cell.place cell.size cells (omega (arith, is.high, top)) ends, low, high, is.says, insert_last cell cells ends) refl

from_low : (lo hi from i : ℕ) (cells : List Cell) (other : Cell) → AreCells lo hi from cells → i < length cells
    → from ≤ (get_or cells i other).place
from_low lo hi from i [] other are inside = absurd (omega (arith, inside))
from_low lo hi from zero (cell ∷ cells) other are inside = are.1
from_low lo hi from (suc i) (cell ∷ cells) other are inside =
    omega (arith, are.1, from_low lo hi (cell.place + cell.size) i cells other are.2 (omega (arith, inside)))

end_by : (lo hi from i : ℕ) (cells : List Cell) (other : Cell) → AreCells lo hi from cells → i < length cells → EndBy
    (get_or cells i other).place (take i cells)
end_by lo hi from i [] other are inside = absurd (omega (arith, inside))
end_by lo hi from zero (cell ∷ cells) other are inside = tt
end_by lo hi from (suc i) (cell ∷ cells) other are inside = (
  (some_bytes lo hi cell are.0, from_low lo hi (cell.place + cell.size) i cells other are.2 (omega (arith, inside))),
  end_by lo hi (cell.place + cell.size) i cells other are.2 (omega (arith, inside)),
)

pub cell_at : (lo hi from i : ℕ) (cells : List Cell) (other : Cell) → AreCells lo hi from cells → i < length cells
    → IsCell lo hi (get_or cells i other)
cell_at lo hi from i [] other are inside = absurd (omega (arith, inside))
cell_at lo hi from zero (cell ∷ cells) other are inside = are.0
cell_at lo hi from (suc i) (cell ∷ cells) other are inside = cell_at lo hi (cell.place + cell.size) i cells other are.2 (omega (arith, inside))

-- the next cell is written behind those in front of it
pub written_next : (lo hi i : ℕ) (cells : List Cell) (other : Cell) → hi < 65536 → AreCells lo hi lo cells → i < length cells
    → write_one (record { lo = lo; hi = hi; cells = take i cells }) (get_or cells i other).place (get_or cells i other).size (get_or cells i other).word
    ≡ record { lo = lo; hi = hi; cells = take (i + 1) cells }
written_next lo hi i cells other top are inside =
    written_last lo hi (get_or cells i other) (take i cells) top (cell_at lo hi lo i cells other are inside) (end_by lo hi lo i cells other are inside)
    ∙ ap (λ (more : List Cell). record { lo = lo; hi = hi; cells = more }) (sym (take_more cells i other inside))

-- THE NEXT CELL

next_is : (lo hi low from : ℕ) (cells : List Cell) (cell : Cell) → AreCells lo hi low cells → next cells from ≡ Some cell
    → IsCell lo hi cell × (from ≤ cell.place)
next_is lo hi low from [] cell are is = absurd (none-some cell is)
next_is lo hi low from (first ∷ cells) cell are is = elim (cases_Bool (nat_lt first.place from)) [
  | inl before ↦ next_is lo hi (first.place + first.size) from cells cell are.2 (rw before at is)
  | inr here ↦ subst (λ (c : Cell). IsCell lo hi c × (from ≤ c.place)) (same_Some first cell (rw here at is)) (are.0, ltb-false first.place from here)
]

-- less is left behind the next cell
pub shorter : (lo hi from place size : ℕ) (word : Word) (cells : List Cell) → AreCells lo hi lo cells
    → Some (place, size, word) ≡ option_map found_of (next cells from) → hi + 1 - (place + size) < hi + 1 - from
shorter lo hi from place size word cells are is =
    let one = next_is lo hi lo from cells (the_cell place size word) are (found_cell (next cells from) (place, size, word) is) in
    omega (arith, some_bytes lo hi (the_cell place size word) one.0, one.0.high, one.1)

-- where there is a cell, the text is no dash
pub some_text : (s : Spelling Cell) (from : ℕ) (found : Found) (cells : List Cell) → Some found ≡ option_map found_of (next cells from)
    → (listed s 59).text cells ≡ marked_text (listed s 59).text (codes "-") (none_or cells)
some_text s from found [] is = absurd (none-some found (sym is))
some_text s from found (cell ∷ cells) is = refl

pub no_text : (s : Spelling Cell) (cells : List Cell) → None ≡ option_map found_of (next cells 0)
    → marked_text (listed s 59).text (codes "-") (none_or cells) ≡ codes "-"
no_text s [] is = refl
no_text s (cell ∷ cells) is = absurd (none-some cell (sym (nothing_found (next (cell ∷ cells) 0) is) ∙ rw (le-ltb cell.place 0 (omega arith)) refl))

-- EACH CELL IN TURN

pub size_at : (lo hi i : ℕ) (cells : List Cell) (cell : Cell) → AreCells lo hi lo cells → i < length cells → get_or cells i cell ≡ cell
    → (cell.size ≡ 1) ⊎ (cell.size ≡ 2)
size_at lo hi i cells cell are inside is = subst (λ (c : Cell). (c.size ≡ 1) ⊎ (c.size ≡ 2)) is (cell_at lo hi lo i cells cell are inside).size

pub byte_at : (lo hi i : ℕ) (cells : List Cell) (cell : Cell) → AreCells lo hi lo cells → i < length cells → get_or cells i cell ≡ cell
    → cell.size ≡ 1 → (v : ℕ) → Has 65536 cell.word.set v → v < 256
byte_at lo hi i cells cell are inside is =
    subst (λ (c : Cell). c.size ≡ 1 → (v : ℕ) → Has 65536 c.word.set v → v < 256) is (cell_at lo hi lo i cells cell are inside).byte

pub written_after : (lo hi i : ℕ) (cells : List Cell) (cell : Cell) (before after : CellMap) → hi < 65536
    → AreCells lo hi lo cells → i < length cells
    → get_or cells i cell ≡ cell
    → before ≡ map_of lo hi (take i cells) → after ≡ write_one before cell.place cell.size cell.word
    → after ≡ map_of lo hi (take (i + 1) cells)
written_after lo hi i cells cell before after top are inside is so_far written =
    written ∙ ap (λ (map : CellMap). write_one map cell.place cell.size cell.word) so_far
    ∙ ap (λ (c : Cell). write_one (map_of lo hi (take i cells)) c.place c.size c.word) (sym is)
    ∙ written_next lo hi i cells cell top are inside
