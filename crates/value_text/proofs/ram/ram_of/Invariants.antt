use Rattle.std.proofs.Common.{◌≡◌, take}
use Rattle.value_text.specs.Cells.{map_of}
use Rattle.value_text.proofs.ram.ram_of.Given as goal

abbrev pub invariant-loop-cell : goal.invariant-loop-cell
invariant-loop-cell g l = g.M.Cells.map l.ram ≡ map_of l.lo l.hi (take l.cell-index l.cells)
