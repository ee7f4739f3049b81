use Rattle.graph_walks.proofs.SearchLemmas.{IsLookedTo}
use Rattle.graph_walks.proofs.components.Search.look.Given as goal

abbrev pub invariant-loop-next : goal.invariant-loop-next
invariant-loop-next l = IsLookedTo l.graph l.stop l.place l.visit l.next l.initial.self l.self
