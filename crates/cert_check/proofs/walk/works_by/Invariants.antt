use Rattle.std.proofs.Common.{◌≡◌, ◌++◌, ◌+◌, drop, map}
use Rattle.std.specs.List.{flat_map}
use Rattle.cert_check.specs.Refusal.{exits_in, rows_refusal, units_of, worked, works_in}
use Rattle.cert_check.proofs.walk.works_by.Given as goal

-- the refusal of the rows that are left is that of all, and the works so far and those of what is left are all works
abbrev pub invariant-loop-place : goal.invariant-loop-place
invariant-loop-place g l =
    let b = g.C.Chip.base l.chip in
    let a = g.C.Chip.analysis b in
    let f = rows_refusal a (g.C.StateText.texts b).outside l.table in
    (f (l.first + l.place) (drop l.place l.rows) ≡ f l.first l.table)
    × (l.works.items ++ map (worked a) (flat_map (units_of a (exits_in l.table)) (drop l.place l.rows)) ≡ works_in a l.table)
