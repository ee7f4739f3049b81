use Rattle.graph_walks.proofs.TurnLemmas.{AreTurnedTo}
use Rattle.graph_walks.proofs.turning.turned.Given as goal

abbrev pub invariant-loop-from : goal.invariant-loop-from
invariant-loop-from l = AreTurnedTo l.graph l.stop l.from l.turned.items
