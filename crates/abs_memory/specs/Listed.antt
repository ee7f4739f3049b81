-- What a list of cells keeps.
use Rattle.std.specs.Prelude.{ℕ, ◌≤◌, ◌<◌, List}
use Rattle.entry_value.specs.declared.cells.Cell.{Cell}
use Rattle.entry_value.specs.Cells.{AreCells}

-- the cells of the RAM from one address to another
pub record IsList (lo hi : ℕ) (cells : List Cell) : Type 0 where
  pub some : lo ≤ hi
  pub high : hi < 65536
  pub are : AreCells lo hi lo cells
