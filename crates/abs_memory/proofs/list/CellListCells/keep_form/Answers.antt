use Rattle.std.proofs.Common.{◌≤◌, ◌<◌, subst}
use Rattle.entry_value.specs.Cells.{CellMap, AreCells}
use Rattle.abs_memory.proofs.list.CellListCells.keep_form.Goals as goal

pub returns-clause-some : goal.returns-clause-some
returns-clause-some c = subst (λ (map : CellMap). map.lo ≤ map.hi) c.self.view_is c.self.invariant.some

pub returns-clause-high : goal.returns-clause-high
returns-clause-high c = subst (λ (map : CellMap). map.hi < 65536) c.self.view_is c.self.invariant.high

pub returns-clause-are : goal.returns-clause-are
returns-clause-are c = subst (λ (map : CellMap). AreCells map.lo map.hi map.lo map.cells) c.self.view_is c.self.invariant.are
