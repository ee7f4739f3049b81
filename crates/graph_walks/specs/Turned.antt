-- Edges that are turned round.
use Rattle.std.specs.Prelude.{◌≡◌, ℕ, ◌⊎◌, ◌↔◌, Bool, List, Contains, Vec, length}
use Rattle.std.specs.declared.alloc.Global.{Global}
use Rattle.graph_walks.specs.Graphs.{Enters, HasEdge, IsUnmarked}

pub record IsEmpty (count : ℕ) (graph : List (Vec ℕ Global)) : Type 0 where
  pub sized : length graph ≡ count
  pub edges : (v w : ℕ) → HasEdge graph v w → ⊥

-- one more edge
pub record IsAdded (a b : ℕ) (old new : List (Vec ℕ Global)) : Type 0 where
  pub sized : length new ≡ length old
  pub edges : (v w : ℕ) → HasEdge new v w ↔ (HasEdge old v w ⊎ ((v ≡ a) × (w ≡ b)))

-- those of a vertex that lead to no stops, turned round
pub record IsTurnedRow (stop : List Bool) (a : ℕ) (row : List ℕ) (old new : List (Vec ℕ Global)) : Type 0 where
  pub sized : length new ≡ length old
  pub edges : (v w : ℕ) → HasEdge new v w ↔ (HasEdge old v w ⊎ ((w ≡ a) × Contains row v × IsUnmarked stop v))

-- those of all vertices
pub record IsTurned (graph : List (Vec ℕ Global)) (stop : List Bool) (turned : List (Vec ℕ Global)) : Type 0 where
  pub sized : length turned ≡ length graph
  pub edges : (a b : ℕ) → HasEdge turned b a ↔ Enters graph stop a b
