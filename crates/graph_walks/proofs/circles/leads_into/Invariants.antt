use Rattle.std.proofs.Common.{ℕ, take}
use Rattle.graph_walks.specs.Ways.{LeadsInto}
use Rattle.graph_walks.proofs.circles.leads_into.Given as goal

abbrev pub invariant-loop-vertex : goal.invariant-loop-vertex
invariant-loop-vertex l = (v : ℕ) → LeadsInto l.stop l.marks l.component (take l.vertex-index l.row) v → ⊥
