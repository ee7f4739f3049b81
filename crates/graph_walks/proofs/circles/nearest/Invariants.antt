use Rattle.std.proofs.Common.{take}
use Rattle.graph_walks.specs.Ways.{IsNearest}
use Rattle.graph_walks.proofs.circles.nearest.Given as goal

abbrev pub invariant-loop-vertex : goal.invariant-loop-vertex
invariant-loop-vertex l = IsNearest l.stop l.distances (take l.vertex-index l.row) l.nearest
