use Rattle.std.proofs.Common.{◌≡◌, take, map}
use Rattle.value_set.specs.Widening.{mark_above}
use Rattle.value_set.proofs.widening.mark_above.Given as goal

abbrev pub invariant-loop-mark : goal.invariant-loop-mark
invariant-loop-mark g l = l.best ≡ mark_above l.bound (map g.N.Number.number (take l.mark-index l.marks))
