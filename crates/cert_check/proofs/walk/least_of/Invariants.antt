use Rattle.std.proofs.Common.{◌≡◌, drop}
use Rattle.cert_check.specs.Refusal.{least_from}
use Rattle.cert_check.proofs.walk.least_of.Given as goal

-- the least of the one so far and of what is left is that of all
abbrev pub invariant-loop-site : goal.invariant-loop-site
invariant-loop-site l = least_from l.least (drop l.site-index l.others) ≡ least_from l.fn.first l.others
