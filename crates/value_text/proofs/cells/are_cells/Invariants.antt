use Rattle.std.proofs.Common.{◌≡◌, drop}
use Rattle.value_text.specs.Cells as fields
use Rattle.value_text.proofs.cells.are_cells.Given as goal

-- the answer is that of the cells that are left
abbrev pub invariant-loop-cell : goal.invariant-loop-cell
invariant-loop-cell l = fields.are_cells l.lo l.hi l.lo l.cells ≡ fields.are_cells l.lo l.hi l.from (drop l.cell-index l.cells)
