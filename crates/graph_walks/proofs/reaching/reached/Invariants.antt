use Rattle.std.proofs.Common.{◌≡◌, map, take}
use Rattle.std.specs.Prelude.{is_some}
use Rattle.graph_walks.proofs.reaching.reached.Given as goal

-- those so far are marked that have a distance
abbrev pub invariant-loop-distance : goal.invariant-loop-distance
invariant-loop-distance l = l.marks.items ≡ map is_some (take l.distance-index l.distance-items)
