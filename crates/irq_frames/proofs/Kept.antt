-- Cells without relations: what stands under them, and their form.
use Rattle.std.proofs.Common.{◌≡◌, ℕ, Option, Some, None, List, refl, sym, ◌∙◌, subst, inl, inr, Contains}
use Rattle.std.proofs.lemmas.Bool.{cases_Bool, cond-true, cond-false}
use Rattle.std.proofs.lemmas.Option.{same_Some}
use Rattle.entry_value.specs.declared.cells.Cell.{Cell}
use Rattle.entry_value.specs.Cells.{AreCells, IsCell, StandsUnder, is_nothing, kept, number_at}
use Rattle.entry_value.specs.CellLists.{kept_form}
use Rattle.entry_value.specs.Laws.{CellLaws}
use Rattle.entry_value.specs.Words.{Suspended, HoldsOfWord}
use Rattle.irq_frames.specs.Unrelated.{plain_cell, unrelated}

unrelated_is : (cell c : Cell) → unrelated cell ≡ Some c → plain_cell cell ≡ c
unrelated_is cell c e = elim (cases_Bool (is_nothing cell.size (plain_cell cell).word)) [
  | inl nothing ↦ let none : unrelated cell ≡ None = cond-true (is_nothing cell.size (plain_cell cell).word) None (Some (plain_cell cell)) nothing in absurd (cc)
  | inr tells ↦ same_Some (plain_cell cell) c (sym (cond-false (is_nothing cell.size (plain_cell cell).word) None (Some (plain_cell cell)) tells) ∙ e)
]

pub stands_without : CellLaws → (first other : Option Suspended) (ram : ℕ → ℕ) (cells : List Cell) → StandsUnder first cells ram
    → StandsUnder other (kept unrelated cells) ram
stands_without laws first other ram cells stands = (
  stands.0,
  λ c there.
      let found = laws.kept_from unrelated cells c there in
      let is = unrelated_is found.0 c found.2 in
      subst (λ cell. HoldsOfWord other cell.word (number_at ram cell.place cell.size)) is ((stands.1 found.0 found.1).0, tt),
)

pub are_kept : (lo hi from : ℕ) (cells : List Cell) → AreCells lo hi from cells → AreCells lo hi from (kept unrelated cells)
are_kept lo hi from cells = kept_form lo hi from unrelated cells
    (λ cell is. elim (cases_Bool (is_nothing cell.size (plain_cell cell).word)) [
      | inl nothing ↦ rw nothing tt
      | inr tells ↦ rw tells (let one : IsCell lo hi (plain_cell cell) = assumption (is, tells) in (one, refl, refl))
    ])

pub each_plain : CellLaws → (cells : List Cell) (cell : Cell) → Contains (kept unrelated cells) cell
    → (held : Cell) × Contains cells held × (plain_cell held ≡ cell)
each_plain laws cells cell there = let found = laws.kept_from unrelated cells cell there in (found.0, found.1, unrelated_is found.0 cell found.2)
