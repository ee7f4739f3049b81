use Rattle.std.proofs.Common.{◌≡◌, ◌++◌, ◌+◌, ◌-◌, true}
use Rattle.text_fields.specs.Lists.{listed, others_text}
use Rattle.value_text.specs.Cells.{cell_field}
use Rattle.value_text.proofs.RamLemmas.{left}
use Rattle.value_text.proofs.ram.push_cells.Given as goal

-- what is written, and the texts of the cells that are left, are all
abbrev pub invariant-loop-place : goal.invariant-loop-place
invariant-loop-place g l =
    let map = g.M.Cells.map l.cells in
    let cell = cell_field (g.P.Places.width l.fn.places) (g.P.Places.names l.fn.places) true (λ cell. true) in
    l.out.items ++ others_text cell 59 (left l.from map.cells) ≡ l.fn.out.items ++ (listed cell 59).text map.cells

abbrev pub decreases-loop-place : goal.decreases-loop-place
decreases-loop-place g l = (g.M.Cells.map l.cells).hi + 1 - l.from
