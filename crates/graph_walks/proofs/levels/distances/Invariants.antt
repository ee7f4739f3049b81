use Rattle.graph_walks.specs.Levels.{IsLevel, left_in}
use Rattle.graph_walks.proofs.levels.distances.Given as goal

abbrev pub invariant-loop-alloc : goal.invariant-loop-alloc
invariant-loop-alloc l = IsLevel l.graph l.from l.stop l.distance l.level

abbrev pub decreases-loop-alloc : goal.decreases-loop-alloc
decreases-loop-alloc l = left_in l.level
