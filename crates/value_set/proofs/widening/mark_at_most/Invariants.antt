use Rattle.std.proofs.Common.{◌≡◌, take, map}
use Rattle.value_set.specs.Widening.{mark_at_most}
use Rattle.value_set.proofs.widening.mark_at_most.Given as goal

abbrev pub invariant-loop-mark : goal.invariant-loop-mark
invariant-loop-mark g l = l.best ≡ mark_at_most l.bound (map g.N.Number.number (take l.mark-index l.marks))
