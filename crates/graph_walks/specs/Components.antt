-- Components: vertices that lead to one another by edges to no stops, in an order in which edges lead back.
use Rattle.std.specs.Prelude.{◌≡◌, ℕ, ◌<◌, ◌≤◌, Bool, Some, List, Contains, Vec, length, slice_get}
use Rattle.std.specs.declared.alloc.Global.{Global}
use Rattle.graph_walks.specs.Graphs.{Enters, Leads}
use Rattle.graph_walks.specs.declared.components.Components.{Components}
use Rattle.graph_walks.specs.declared.components.Mark.{Mark}
use Rattle.graph_walks.specs.declared.components.Mark.TheVariants.{Done}

abbrev pub Reaches : List (Vec ℕ Global) → (stop : List Bool) → ℕ → ℕ → Type 0
Reaches graph stop a b = (walk : List ℕ) × Leads (Enters graph stop) a walk b

-- the vertex is in this component
abbrev pub IsDone : List Mark → ℕ → ℕ → Type 0
IsDone marks component v = slice_get marks v ≡ Some (Done component)

-- Edges lead to the same component or to an earlier one, and the vertices of a component lead to one another. The order has the
-- vertices of all components, and the components ascend in it.
pub record AreComponents (graph : List (Vec ℕ Global)) (stop : List Bool) (marks : List Mark) (order : List ℕ) : Type 0 where
  pub back : (a b c : ℕ) → IsDone marks c a → Enters graph stop a b → (d : ℕ) × IsDone marks d b × (d ≤ c)
  pub one : (a b c : ℕ) → IsDone marks c a → IsDone marks c b → Reaches graph stop a b
  pub listed : (v c : ℕ) → IsDone marks c v → Contains order v
  pub only : (v : ℕ) → Contains order v → (c : ℕ) × IsDone marks c v
  pub ascend : (i j a b c d : ℕ) → i < j → slice_get order i ≡ Some a → slice_get order j ≡ Some b → IsDone marks c a → IsDone marks d b → c ≤ d
  pub below : (v c : ℕ) → IsDone marks c v → c < length order

-- each vertex is in one
pub record AreAllComponents (graph : List (Vec ℕ Global)) (stop : List Bool) (found : Components) : Type 0 where
  pub sized : length found.marks.items ≡ length graph
  pub components : AreComponents graph stop found.marks.items found.order.items
  pub all : (v : ℕ) → v < length graph → (c : ℕ) × IsDone found.marks.items c v
