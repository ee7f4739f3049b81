-- Pages behind a write, whether it was refused or not.
use Rattle.std.proofs.Common.{◌≡◌, ℕ, List, Result, Ok, Err, sym, subst}
use Rattle.std.specs.Prelude.{OnOk, OnErr}
use Rattle.entry_value.specs.declared.cells.Cell.{Cell}
use Rattle.entry_value.specs.Cells.{AreCells}
use Rattle.abs_pages.specs.Paging.{ArePages, IsPaged, Paged, flat}

pub paged_behind : {X Y : Type 0} (lo hi : ℕ) (old new : List Paged) (cells : List Cell) (result : Result X Y)
    → IsPaged lo hi old → AreCells lo hi lo cells
    → OnOk result (ArePages lo hi new) → OnOk result (flat new ≡ cells) → OnErr result (new ≡ old) → IsPaged lo hi new
paged_behind lo hi old new cells (Ok x) held are pages value kept = record {
  some = held.some;
  high = held.high;
  form = pages;
  are = subst (AreCells lo hi lo) (sym value) are;
}
paged_behind lo hi old new cells (Err x) held are pages value kept = subst (IsPaged lo hi) (sym kept) held
