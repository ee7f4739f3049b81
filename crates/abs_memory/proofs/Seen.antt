-- A list of cells, as its callers see it.
use Rattle.std.proofs.Common.{◌≡◌, ℕ, List}
use Rattle.entry_value.specs.declared.cells.Cell.{Cell}
use Rattle.entry_value.specs.Cells.{CellMap}
use Rattle.entry_value.specs.Representing.{IsSeen}
use Rattle.abs_memory.specs.Listed.{IsList}

abbrev pub map_of : (lo hi : ℕ) → List Cell → CellMap
map_of lo hi cells = record { lo = lo; hi = hi; cells = cells }

pub seen : {lo hi : ℕ} {cells : List Cell} {now : CellMap} → IsList lo hi cells → map_of lo hi cells ≡ now → IsSeen (map_of lo hi cells) now
seen list is = record { is = is; high = list.high; are = list.are }
