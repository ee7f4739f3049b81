use Rattle.std.proofs.Common.{Contains, take}
use Rattle.graph_walks.specs.Levels.{IsSpread}
use Rattle.graph_walks.proofs.levels.Level.lead_along.Given as goal

-- each of those so far was led to
abbrev pub invariant-loop-vertex : goal.invariant-loop-vertex
invariant-loop-vertex l = IsSpread (Contains (take l.vertex-index l.row)) l.distance l.initial.self l.self
