-- Going over the exit's cells, of which each that is touched is written as it goes on.
use Rattle.std.proofs.Common.{◌≡◌, ℕ, true, false, List, ◌∷◌, map, refl, sym, subst}
use Rattle.entry_value.specs.declared.cells.Cell.{Cell}
use Rattle.entry_value.specs.declared.word.Word.{Word}
use Rattle.entry_value.specs.Cells.{CellMap, write_one}
use Rattle.irq_frames.specs.Resuming.{going_on, is_all_touched, touched_cells, with_written}

abbrev pub writes_behind : (words : Cell → Word) → (touched : List (ℕ × ℕ)) → List Cell → CellMap → CellMap
writes_behind words touched cells held = with_written (map (going_on words) (touched_cells touched cells)) held

pub step_written : (words : Cell → Word) (touched : List (ℕ × ℕ)) (cells rest : List Cell) (c : Cell) (held : CellMap) → cells ≡ c ∷ rest
    → is_all_touched touched c.place c.size ≡ true
    → writes_behind words touched rest (write_one held c.place c.size (words c)) ≡ writes_behind words touched cells held
step_written words touched cells rest c held is all =
    subst (λ (xs : List Cell). writes_behind words touched rest (write_one held c.place c.size (words c)) ≡ writes_behind words touched xs held) (sym is) (rw all refl)

pub step_left : (words : Cell → Word) (touched : List (ℕ × ℕ)) (cells rest : List Cell) (c : Cell) (held : CellMap) → cells ≡ c ∷ rest
    → is_all_touched touched c.place c.size ≡ false
    → writes_behind words touched rest held ≡ writes_behind words touched cells held
step_left words touched cells rest c held is some =
    subst (λ (xs : List Cell). writes_behind words touched rest held ≡ writes_behind words touched xs held) (sym is) (rw some refl)
