-- What the cells of a RAM are, as a list that is searched.
use Rattle.std.proofs.Common.{ℕ, ◌+◌, ◌<◌, List, [], ◌∷◌, arith}
use Rattle.entry_value.specs.declared.cells.Cell.{Cell}
use Rattle.entry_value.specs.CellLists.{some_size}
use Rattle.entry_value.specs.Cells.{AreCells}
use Rattle.abs_memory.specs.Finding.{Ascend, EachEndsBelow}
use Rattle.abs_memory.proofs.Places.{ascend_lower}

cells_ascend : (lo hi from : ℕ) (cells : List Cell) → AreCells lo hi from cells → Ascend from cells
cells_ascend lo hi from [] are = tt
cells_ascend lo hi from (cell ∷ cells) (is, le, rest) =
    (le, some_size cell.size is.size, cells_ascend lo hi (cell.place + cell.size) cells rest)

pub list_ascends : (lo hi from : ℕ) (cells : List Cell) → AreCells lo hi from cells → Ascend 0 cells
list_ascends lo hi from cells are = ascend_lower from 0 cells (omega arith) (cells_ascend lo hi from cells are)

pub list_ends : (lo hi from : ℕ) (cells : List Cell) → hi < 65536 → AreCells lo hi from cells → EachEndsBelow 65536 cells
list_ends lo hi from [] below are = tt
list_ends lo hi from (cell ∷ cells) below (is, le, rest) =
    (omega (arith, is.high), list_ends lo hi (cell.place + cell.size) cells below rest)
