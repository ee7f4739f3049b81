use Rattle.std.proofs.Common.{◌≡◌, ◌++◌, drop}
use Rattle.cert_check.specs.Table.{placed}
use Rattle.cert_check.proofs.table.places_of.Given as goal

-- the places so far and those of what is left are all places
abbrev pub invariant-loop-place : goal.invariant-loop-place
invariant-loop-place g l = l.places.entries ++ placed l.place (drop l.place l.rows) ≡ placed 0 l.rows
