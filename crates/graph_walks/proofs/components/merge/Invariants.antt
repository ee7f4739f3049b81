use Rattle.graph_walks.proofs.OrderLemmas.{IsMerging}
use Rattle.graph_walks.proofs.components.merge.Given as goal

abbrev pub invariant-loop-bound : goal.invariant-loop-bound
invariant-loop-bound l = IsMerging l.place l.initial.bounds.items l.bounds.items

abbrev pub decreases-loop-bound : goal.decreases-loop-bound
decreases-loop-bound l = goal.left-loop-bound l
