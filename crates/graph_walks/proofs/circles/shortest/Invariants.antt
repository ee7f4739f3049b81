use Rattle.graph_walks.proofs.CircleLemmas.{IsComing}
use Rattle.graph_walks.proofs.circles.shortest.Given as goal

abbrev pub invariant-loop-way : goal.invariant-loop-way
invariant-loop-way l = IsComing l.graph l.stop l.distances l.vertex l.circle.items l.way

abbrev pub decreases-loop-way : goal.decreases-loop-way
decreases-loop-way l = l.way.distance
