-- Pages that a write at several addresses doesn't reach.
use Rattle.std.proofs.Common.{◌≡◌, ℕ, ◌+◌, ◌/◌, ◌%◌, ◌<◌, ◌≤◌, sym, false, Some, List, refl, inl, inr, arith}
use Rattle.std.specs.Prelude.{◌==◌, ◌&&◌}
use Rattle.std.proofs.lemmas.Bool.{and_right, or_from, false≢true}
use Rattle.value_set.specs.declared.form.Form.{Form}
use Rattle.value_set.specs.Form.{Has, above, members}
use Rattle.value_set.specs.Joining.{is_in}
use Rattle.value_set.specs.Laws.{SetLaws}
use Rattle.entry_value.specs.declared.cells.Cell.{Cell}
use Rattle.entry_value.specs.declared.word.Word.{Word}
use Rattle.entry_value.specs.CellLists.{Each, each_both, each_cell, each_then}
use Rattle.entry_value.specs.Cells.{AreCells, IsCell, cell_behind, kept, meets_beside}
use Rattle.abs_pages.specs.Paging.{before_page}
use Rattle.abs_pages.proofs.Lists.{kept_all}

-- the set has no address in the page, right in front of it or right behind it
abbrev pub IsFar : Form → (number : ℕ) → Type 0
IsFar at number = (v : ℕ) → Has 65536 at v → 34 ≤ above 65536 (before_page number) v

absent : SetLaws → (at : Form) (v : ℕ) → (Has 65536 at v → ⊥) → is_in 65536 at v ≡ false
absent laws at v none = sym (laws.asked (members 65536 at) v false ((λ e. absurd (false≢true e)), (λ has. absurd (none has))))

here : (place number : ℕ) → place < 65536 → place / 32 ≡ number → above 65536 (before_page number) place < 34
here place number lt is = omega (arith, lt, is)

behind : (place number : ℕ) → place < 65536 → place / 32 ≡ number → above 65536 (before_page number) (place + 1) < 34
behind place number lt is = omega (arith, lt, is)

front : (place number : ℕ) → place < 65536 → place / 32 ≡ number → above 65536 (before_page number) ((place + 65535) % 65536) < 34
front place number lt is = omega (arith, lt, is)

not_in : SetLaws → (at : Form) (number v : ℕ) → IsFar at number → above 65536 (before_page number) v < 34 → is_in 65536 at v ≡ false
not_in laws at number v far near = absent laws at v (λ has. let least = far v has in absurd (omega (arith, least, near)))

stays_behind : SetLaws → (at : Form) (size number : ℕ) (word : Word) (cell : Cell) → IsFar at number
    → cell.place < 65536 → cell.place / 32 ≡ number
    → cell_behind at size word cell ≡ Some cell
stays_behind laws at size number word cell far lt is =
    let own = not_in laws at number cell.place far (here cell.place number lt is) in
    let next = not_in laws at number (cell.place + 1) far (behind cell.place number lt is) in
    let before = not_in laws at number ((cell.place + 65535) % 65536) far (front cell.place number lt is) in
    let beside : meets_beside at size cell ≡ false =
    or_from ((cell.size == 2) && is_in 65536 at (cell.place + 1)) ((size == 2) && is_in 65536 at ((cell.place + 65535) % 65536))
    (and_right (cell.size == 2) (is_in 65536 at (cell.place + 1)) next) (and_right (size == 2) (is_in 65536 at ((cell.place + 65535) % 65536)) before) in
    rw (beside, own) refl

whole : (lo hi : ℕ) (cell : Cell) → hi < 65536 → IsCell lo hi cell → cell.place < 65536
whole lo hi cell high is = elim is.size [ inl one ↦ omega (arith, one, is.high, high) | inr two ↦ omega (arith, two, is.high, high) ]

pub page_stays : SetLaws → (at : Form) (size number : ℕ) (word : Word) (lo hi from : ℕ) (cells : List Cell) → IsFar at number → hi < 65536
    → AreCells lo hi from cells → Each (λ cell. cell.place / 32 ≡ number) cells → kept (cell_behind at size word) cells ≡ cells
page_stays laws at size number word lo hi from cells far high are inside =
    kept_all (cell_behind at size word) cells
    (each_then (λ cell. IsCell lo hi cell × (cell.place / 32 ≡ number)) (λ cell. cell_behind at size word cell ≡ Some cell) cells
    (λ cell both. stays_behind laws at size number word cell far (whole lo hi cell high both.0) both.1)
    (each_both (IsCell lo hi) (λ cell. cell.place / 32 ≡ number) cells (each_cell lo hi from cells are) inside))
