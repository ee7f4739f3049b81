use Rattle.graph_walks.specs.Turned.{IsEmpty}
use Rattle.graph_walks.proofs.turning.empty.Given as goal

abbrev pub invariant-loop-row : goal.invariant-loop-row
invariant-loop-row l = IsEmpty l._row l.graph.items
