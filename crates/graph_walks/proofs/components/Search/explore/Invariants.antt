use Rattle.graph_walks.specs.Searches.{work_left}
use Rattle.graph_walks.proofs.SearchLemmas.{IsExploring}
use Rattle.graph_walks.proofs.components.Search.explore.Given as goal

abbrev pub invariant-loop-start : goal.invariant-loop-start
invariant-loop-start l = IsExploring l.graph l.stop l.vertex l.fn.self l.self

abbrev pub decreases-loop-start : goal.decreases-loop-start
decreases-loop-start l = work_left l.self
