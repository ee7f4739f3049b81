use Rattle.std.proofs.Common.{take}
use Rattle.graph_walks.specs.Levels.{IsLedFrom, IsSpread}
use Rattle.graph_walks.proofs.levels.Level.go_on.Given as goal

-- those behind the vertices so far were led to
abbrev pub invariant-loop-vertex : goal.invariant-loop-vertex
invariant-loop-vertex l = IsSpread (IsLedFrom l.graph l.stop (take l.vertex-index l.front)) l.distance l.initial.self l.self
