-- What is made of the cells that two RAMs have.
use Rattle.std.proofs.Common.{All, get_or, subst}
use Rattle.std.proofs.lemmas.List.{get_or_default}
use Rattle.std.specs.Prelude.{ℕ, ◌==◌, ◌<◌, if◌then◌else◌, Option, List}
use Rattle.entry_value.specs.declared.cells.Cell.{Cell}
use Rattle.entry_value.specs.declared.word.Word.{Word}
use Rattle.entry_value.specs.Words.{word_widen}
use Rattle.entry_value.specs.Cells.{both_of, byte_widened, cell_at}

-- of a cell and the word of the cell of its place and size among others
abbrev pub made_with : (made : Cell → Option Word → Option Cell) → (others : List Cell) → Cell → Option Cell
made_with made others cell = made cell (cell_at others cell.place cell.size)

-- a cell widened by such a word
abbrev pub widened_by : (marks : List ℕ) → Cell → Option Word → Option Cell
widened_by marks cell other =
    if cell.size == 1 then both_of (λ h n. byte_widened h n marks) cell other else both_of (λ h n. word_widen h n marks) cell other

-- marks that are words, each by itself: a lemma, also for the proofs of crates above
pub marks_below : (marks : List ℕ) → ((k : ℕ) → get_or marks k 0 < 65536) → All (λ mark. mark < 65536) marks
marks_below marks below = λ k d lt. subst (λ mark. mark < 65536) (get_or_default marks k 0 d lt) (below k)
