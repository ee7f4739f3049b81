use Rattle.std.proofs.Common.{take}
use Rattle.graph_walks.specs.Greatest.{IsGreatest, left_behind}
use Rattle.graph_walks.proofs.legs.greatest_behind.Given as goal

abbrev pub invariant-loop-vertex : goal.invariant-loop-vertex
invariant-loop-vertex l = IsGreatest (left_behind l.stop l.longest) (take l.vertex-index l.row) l.most
