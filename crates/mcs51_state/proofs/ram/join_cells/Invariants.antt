use Rattle.std.proofs.Common.{◌≡◌, drop}
use Rattle.value_set.specs.Form.{members}
use Rattle.mcs51_state.specs.Writing.{cells_joined}
use Rattle.mcs51_state.proofs.ram.join_cells.Given as goal

abbrev pub invariant-loop-index : goal.invariant-loop-index
invariant-loop-index g l =
    cells_joined (g.M.Cells.map l.cells) (drop l.index (members 256 l.at)) l.word ≡ cells_joined (g.M.Cells.map l.initial.cells) (members 256 l.at) l.word
