use Rattle.graph_walks.proofs.LegLemmas.{AreKnownTo}
use Rattle.graph_walks.proofs.legs.longest.Given as goal

abbrev pub invariant-loop-vertex : goal.invariant-loop-vertex
invariant-loop-vertex l = AreKnownTo l.graph l.cost l.stop l.vertex-items l.vertex-index l.longest.items
