use Rattle.std.proofs.Common.{ℕ, ◌<◌, length}
use Rattle.graph_walks.specs.Graphs.{HasEdge}
use Rattle.graph_walks.proofs.graph.is_graph.Given as goal

-- the edges so far lead to vertices
abbrev pub invariant-loop-row : goal.invariant-loop-row
invariant-loop-row l = (a b : ℕ) → a < l.row-index → HasEdge l.graph a b → b < length l.graph
