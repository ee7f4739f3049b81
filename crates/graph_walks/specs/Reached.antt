-- Which vertices walks reach, and by how many edges.
use Rattle.std.specs.Prelude.{◌≡◌, ℕ, ◌≤◌, ◌↔◌, Bool, Option, Some, None, List, Vec, length, slice_get}
use Rattle.std.specs.declared.alloc.Global.{Global}
use Rattle.graph_walks.specs.Graphs.{GoesOn, IsMarked, Leads}

-- a walk from a start that goes on from no stop: the vertices behind the start
pub record IsReached (graph : List (Vec ℕ Global)) (from stop : List Bool) (walk : List ℕ) (v : ℕ) : Type 0 where
  pub start : ℕ
  pub is_start : IsMarked from start
  pub leads : Leads (GoesOn graph stop) start walk v

-- a walk of so many edges
pub record HasWalk (graph : List (Vec ℕ Global)) (from stop : List Bool) (edges v : ℕ) : Type 0 where
  pub walk : List ℕ
  pub reached : IsReached graph from stop walk v
  pub long : length walk ≡ edges

-- those are marked that a walk reaches, and no others
pub record AreReached (graph : List (Vec ℕ Global)) (from stop marks : List Bool) : Type 0 where
  pub sized : length marks ≡ length graph
  pub exact : (v : ℕ) → IsMarked marks v ↔ (walk : List ℕ) × IsReached graph from stop walk v

-- DISTANCES

-- how many edges the shortest such walk has
abbrev pub IsDistance : List (Vec ℕ Global) → (from stop : List Bool) → ℕ → Option ℕ → Type 0
IsDistance graph from stop v None = (walk : List ℕ) → IsReached graph from stop walk v → ⊥
IsDistance graph from stop v (Some distance) =
    HasWalk graph from stop distance v × ((walk : List ℕ) → IsReached graph from stop walk v → distance ≤ length walk)

pub record AreDistances (graph : List (Vec ℕ Global)) (from stop : List Bool) (distances : List (Option ℕ)) : Type 0 where
  pub sized : length distances ≡ length graph
  pub exact : (v : ℕ) (distance : Option ℕ) → slice_get distances v ≡ Some distance → IsDistance graph from stop v distance
