use Rattle.std.proofs.Common.{◌≡◌, ◌++◌, length, map}
use Rattle.std.specs.List.{flat_map}
use Rattle.cert_check.specs.Exits.{returned}
use Rattle.cert_check.specs.Refusal.{first_of, return_from, unit_refusal, worked}
use Rattle.cert_check.proofs.walk.returns_of.Given as goal

-- the refusal of what is left is that of all, and the works so far and those of what is left are all works
abbrev pub invariant-loop-exit : goal.invariant-loop-exit
invariant-loop-exit g l =
    let b = g.C.Chip.base l.chip in
    let a = g.C.Chip.analysis b in
    let f = unit_refusal a (g.C.StateText.texts b).outside l.table l.line in
    let inputs = flat_map (return_from l.row.0 l.row.1 l.waits) l.fn.exits in
    let left = flat_map (returned l.row.0 l.row.1) l.due in
    (first_of f left ≡ first_of f inputs) × (l.works.items ++ map (worked a) left ≡ map (worked a) inputs)

abbrev pub decreases-loop-exit : goal.decreases-loop-exit
decreases-loop-exit g l = length l.due
