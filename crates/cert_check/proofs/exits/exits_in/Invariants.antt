use Rattle.std.proofs.Common.{◌≡◌, length}
use Rattle.cert_check.specs.Refusal.{exits_in}
use Rattle.cert_check.proofs.exits.exits_in.Given as goal

-- those of what is left are those of all
abbrev pub invariant-loop-rest : goal.invariant-loop-rest
invariant-loop-rest g l = exits_in l.rest ≡ exits_in l.fn.rows

abbrev pub decreases-loop-rest : goal.decreases-loop-rest
decreases-loop-rest g l = length l.rest
