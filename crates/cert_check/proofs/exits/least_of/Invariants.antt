use Rattle.std.proofs.Common.{◌≡◌, drop}
use Rattle.cert_check.specs.Exits.{least_place}
use Rattle.cert_check.proofs.exits.least_of.Given as goal

-- the least of the one so far and of what is left is that of all
abbrev pub invariant-loop-cursor : goal.invariant-loop-cursor
invariant-loop-cursor l = least_place l.least (drop l.cursor-index l.cursors) ≡ least_place l.fn.end l.cursors
