use Rattle.std.proofs.Common.{take}
use Rattle.graph_walks.specs.Searches.{IsAssigned}
use Rattle.graph_walks.proofs.components.assign.Given as goal

abbrev pub invariant-loop-visit : goal.invariant-loop-visit
invariant-loop-visit l = IsAssigned (take l.visit-index l.visits) l.component l.initial.marks l.marks l.initial.order.items l.order.items
