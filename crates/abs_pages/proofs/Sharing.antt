-- What is joined with, or widened by, what is within it, stays as it is.
use Rattle.std.proofs.Common.{◌≡◌, ℕ, refl, sym, true, Option, None, Some, List, inl, inr}
use Rattle.std.specs.Prelude.{◌==◌, ◌&&◌}
use Rattle.std.proofs.lemmas.Bool.{cases_Bool, and_parts, and_from, eqb-true, eq-eqb}
use Rattle.value_set.specs.Joining.{is_within, join}
use Rattle.value_set.specs.Widening.{widen}
use Rattle.value_set.specs.declared.form.Form.{Form}
use Rattle.entry_value.specs.declared.cells.Cell.{Cell}
use Rattle.entry_value.specs.declared.word.Entry.{Entry}
use Rattle.entry_value.specs.declared.word.Word.{Word}
use Rattle.entry_value.specs.CellLists.{Each, each_then, each_both, each_cell}
use Rattle.entry_value.specs.Cells.{AreCells, IsCell, are_within, both_of, byte_widened, cell_at, cell_widened, is_found_within, join_cells, widen_cells, with_both}
use Rattle.entry_value.specs.Words.{common_entry, is_entry_within, is_same_entry, word_join, word_widen, word_within}
use Rattle.abs_pages.proofs.Lists.{kept_all, within_each}

set_joined : (held new : Form) → is_within 65536 new held ≡ true → join 65536 held new ≡ held
unfolding join
set_joined held new h = rw h refl

set_widened : (held new : Form) (marks : List ℕ) → is_within 65536 new held ≡ true → widen 65536 held new marks ≡ held
unfolding widen
set_widened held new marks h = rw h refl

same_entry : (a b : Entry) → is_same_entry a b ≡ true → is_same_entry b a ≡ true
same_entry a b h =
    let first = and_parts ((a.place == b.place) && (a.and == b.and)) (a.or == b.or) h in
    let rest = and_parts (a.place == b.place) (a.and == b.and) first.0 in
    and_from ((b.place == a.place) && (b.and == a.and)) (b.or == a.or)
    (and_from (b.place == a.place) (b.and == a.and) (eq-eqb b.place a.place (sym (eqb-true a.place b.place rest.0))) (eq-eqb b.and a.and (sym (eqb-true a.and b.and rest.1))))
    (eq-eqb b.or a.or (sym (eqb-true a.or b.or first.1)))

entry_common : (held new : Option Entry) → is_entry_within new held ≡ true → common_entry held new ≡ held
entry_common None new h = refl
entry_common (Some a) None h = absurd cc
entry_common (Some a) (Some b) h = rw (same_entry b a h) refl

word_joined : (held new : Word) → word_within new held ≡ true → word_join held new ≡ held
word_joined held new h =
    let parts = and_parts (is_within 65536 new.set held.set) (is_entry_within new.entry held.entry) h in
    rw (set_joined held.set new.set parts.0, entry_common held.entry new.entry parts.1) refl

word_widened : (held new : Word) (marks : List ℕ) → word_within new held ≡ true → word_widen held new marks ≡ held
word_widened held new marks h =
    let parts = and_parts (is_within 65536 new.set held.set) (is_entry_within new.entry held.entry) h in
    rw (set_widened held.set new.set marks parts.0, entry_common held.entry new.entry parts.1) refl

byte_stays : (held new : Word) (marks : List ℕ) → word_within new held ≡ true → byte_widened held new marks ≡ held
byte_stays held new marks h =
    let parts = and_parts (is_within 65536 new.set held.set) (is_entry_within new.entry held.entry) h in
    rw (parts.0, entry_common held.entry new.entry parts.1) refl

both_stay : (f : Word → Word → Word) (lo hi : ℕ) (cell : Cell) (found : Option Word)
    → ((held new : Word) → word_within new held ≡ true → f held new ≡ held)
    → IsCell lo hi cell → is_found_within found cell.word ≡ true → both_of f cell found ≡ Some cell
both_stay f lo hi cell None same is within = absurd cc
both_stay f lo hi cell (Some new) same is within = rw (same cell.word new within, is.says) refl

abbrev Both : (lo hi : ℕ) → (new : List Cell) → Cell → Type 0
Both lo hi new cell = IsCell lo hi cell × (is_found_within (cell_at new cell.place cell.size) cell.word ≡ true)

each_of_both : (lo hi from : ℕ) (held new : List Cell) → AreCells lo hi from held → are_within new held ≡ true → Each (Both lo hi new) held
each_of_both lo hi from held new are within =
    each_both (IsCell lo hi) (λ cell. is_found_within (cell_at new cell.place cell.size) cell.word ≡ true) held (each_cell lo hi from held are) (within_each new held within)

pub join_shared : (lo hi from : ℕ) (held new : List Cell) → AreCells lo hi from held → are_within new held ≡ true
    → join_cells held new ≡ held
unfolding join_cells
join_shared lo hi from held new are within =
    kept_all (with_both word_join new) held
    (each_then (Both lo hi new) (λ cell. with_both word_join new cell ≡ Some cell) held
    (λ cell h. both_stay word_join lo hi cell (cell_at new cell.place cell.size) word_joined h.0 h.1) (each_of_both lo hi from held new are within))

cell_stays : (lo hi : ℕ) (marks : List ℕ) (new : List Cell) (cell : Cell) → Both lo hi new cell → cell_widened marks new cell ≡ Some cell
cell_stays lo hi marks new cell h = elim (cases_Bool (cell.size == 1)) [
  | inl one ↦ rw one (both_stay (λ held word. byte_widened held word marks) lo hi cell (cell_at new cell.place cell.size) (λ held word within. byte_stays held word marks within) h.0 h.1)
  | inr two ↦ rw two (both_stay (λ held word. word_widen held word marks) lo hi cell (cell_at new cell.place cell.size) (λ held word within. word_widened held word marks within) h.0 h.1)
]

pub widen_shared : (lo hi from : ℕ) (held new : List Cell) (marks : List ℕ) → AreCells lo hi from held
    → are_within new held ≡ true → widen_cells held new marks ≡ held
unfolding widen_cells
widen_shared lo hi from held new marks are within =
    kept_all (cell_widened marks new) held
    (each_then (Both lo hi new) (λ cell. cell_widened marks new cell ≡ Some cell) held (cell_stays lo hi marks new) (each_of_both lo hi from held new are within))
