use Rattle.std.proofs.Common.{◌≡◌, take, map}
use Rattle.std.specs.List.{fold}
use Rattle.value_set.specs.Gaps.{lesser}
use Rattle.value_set.proofs.long.least.Given as goal

abbrev pub invariant-loop-number : goal.invariant-loop-number
invariant-loop-number g l = l.least ≡ fold lesser 65535 (map g.N.Number.number (take l.number-index l.list))
