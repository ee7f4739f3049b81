use Rattle.std.proofs.Common.{ℕ, ◌<◌}
use Rattle.graph_walks.specs.Ways.{IsClosing}
use Rattle.graph_walks.proofs.circles.first_on_circle.Given as goal

abbrev pub invariant-loop-vertex : goal.invariant-loop-vertex
invariant-loop-vertex l = (v : ℕ) → v < l.vertex → IsClosing l.graph l.stop l.marks v → ⊥
