-- What holds of each cell holds of the cells that are joined and widened from them, where it stays so with another set, with
-- the same relation or with none.
use Rattle.std.proofs.Common.{◌≡◌, ℕ, ◌==◌, Option, None, Some, List, refl, sym, subst}
use Rattle.std.proofs.lemmas.Bool.{cond_both}
use Rattle.entry_value.specs.declared.cells.Cell.{Cell}
use Rattle.entry_value.specs.declared.word.Entry.{Entry}
use Rattle.entry_value.specs.declared.word.Word.{Word}
use Rattle.entry_value.specs.CellLists.{Each, OfSome, each_kept}
use Rattle.entry_value.specs.Cells.{both_of, byte_widened, cell_at, cell_widened, is_nothing, join_cells, widen_cells, with_both}
use Rattle.entry_value.specs.RelationFacts.{common_entry_keeps}
use Rattle.entry_value.specs.Words.{common_entry, word_join, word_widen}
use Rattle.value_set.specs.declared.form.Form.{Form}

abbrev pub cell_with : Cell → Form → Option Entry → Cell
cell_with cell set entry = record { place = cell.place; size = cell.size; word = record { set = set; entry = entry } }

pub record StaysSo (P : Cell → Type 0) : Type 0 where
  pub same : (cell : Cell) (set : Form) → P cell → P (cell_with cell set cell.word.entry)
  pub none : (cell : Cell) (set : Form) → P cell → P (cell_with cell set None)

module _ (P : Cell → Type 0) (stays : StaysSo P) where
  both_stay : (f : Word → Word → Word) → ((h n : Word) → (f h n).entry ≡ common_entry h.entry n.entry)
      → (cell : Cell) (new : Option Word) → P cell
      → OfSome P (both_of f cell new)
  both_stay f entries cell None form = tt
  both_stay f entries cell (Some new) form =
      let word = f cell.word new in
      let common : P (cell_with cell word.set (common_entry cell.word.entry new.entry)) =
      common_entry_keeps (λ entry. P (cell_with cell word.set entry)) cell.word.entry new.entry (stays.none cell word.set form) (stays.same cell word.set form) in
      let made : P (cell_with cell word.set word.entry) = subst (λ entry. P (cell_with cell word.set entry)) (sym (entries cell.word new)) common in
      cond_both (is_nothing cell.size word) None (Some (cell_with cell word.set word.entry)) (OfSome P) (λ e. tt) (λ e. made)

  pub joined_stay : (held new : List Cell) → Each P held → Each P (join_cells held new)
  unfolding join_cells
  joined_stay held new forms =
      each_kept P P (with_both word_join new) held (λ cell form. both_stay word_join (λ h n. refl) cell (cell_at new cell.place cell.size) form) forms

  widened_stays : (marks : List ℕ) (new : List Cell) (cell : Cell) → P cell → OfSome P (cell_widened marks new cell)
  widened_stays marks new cell form =
      let byte : Word → Word → Word = λ h n. byte_widened h n marks in
      let word : Word → Word → Word = λ h n. word_widen h n marks in
      let found = cell_at new cell.place cell.size in
      cond_both (cell.size == 1) (with_both byte new cell) (with_both word new cell) (OfSome P)
      (λ one. both_stay byte (λ h n. refl) cell found form) (λ two. both_stay word (λ h n. refl) cell found form)

  pub widened_stay : (marks : List ℕ) (held new : List Cell) → Each P held → Each P (widen_cells held new marks)
  unfolding widen_cells
  widened_stay marks held new forms = each_kept P P (cell_widened marks new) held (widened_stays marks new) forms
