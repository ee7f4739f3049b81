use Rattle.graph_walks.proofs.SearchLemmas.{IsExploredTo}
use Rattle.graph_walks.proofs.components.components_of.Given as goal

abbrev pub invariant-loop-vertex : goal.invariant-loop-vertex
invariant-loop-vertex l = IsExploredTo l.graph l.stop l.vertex l.search
