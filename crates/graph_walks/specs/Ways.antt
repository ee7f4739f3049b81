-- How the first circle is found.
use Rattle.std.specs.Prelude.{◌≡◌, ℕ, ◌<◌, ◌≤◌, ◌⊎◌, Bool, Option, Some, None, List, Contains, Vec, length, slice_get}
use Rattle.std.specs.declared.alloc.Global.{Global}
use Rattle.graph_walks.specs.Components.{IsDone}
use Rattle.graph_walks.specs.Graphs.{Enters, IsUnmarked, Leads}
use Rattle.graph_walks.specs.declared.components.Mark.{Mark}
use Rattle.graph_walks.specs.declared.circles.Way.{Way}

-- AN EDGE WITHIN A COMPONENT

abbrev pub LeadsInto : (stop : List Bool) → List Mark → (component : ℕ) → (row : List ℕ) → ℕ → Type 0
LeadsInto stop marks component row v = Contains row v × IsUnmarked stop v × IsDone marks component v

-- an edge leads from the vertex to one of its component
pub record IsClosing (graph : List (Vec ℕ Global)) (stop : List Bool) (marks : List Mark) (v : ℕ) : Type 0 where
  pub component : ℕ
  pub is : IsDone marks component v
  pub next : ℕ
  pub step : Enters graph stop v next
  pub also : IsDone marks component next

-- the least such vertex
abbrev pub IsFirstClosing : List (Vec ℕ Global) → (stop : List Bool) → List Mark → Option ℕ → Type 0
IsFirstClosing graph stop marks None = (v : ℕ) → IsClosing graph stop marks v → ⊥
IsFirstClosing graph stop marks (Some v) = IsClosing graph stop marks v × ((w : ℕ) → IsClosing graph stop marks w → v ≤ w)

-- DISTANCES TO A VERTEX, over edges to no stops

pub record HasWayTo (graph : List (Vec ℕ Global)) (stop : List Bool) (v distance w : ℕ) : Type 0 where
  pub walk : List ℕ
  pub leads : Leads (Enters graph stop) w walk v
  pub long : length walk ≡ distance

abbrev pub IsDistanceTo : List (Vec ℕ Global) → (stop : List Bool) → (v : ℕ) → ℕ → Option ℕ → Type 0
IsDistanceTo graph stop v w None = (walk : List ℕ) → Leads (Enters graph stop) w walk v → ⊥
IsDistanceTo graph stop v w (Some distance) =
    HasWayTo graph stop v distance w × ((walk : List ℕ) → Leads (Enters graph stop) w walk v → distance ≤ length walk)

pub record AreDistancesTo (graph : List (Vec ℕ Global)) (stop : List Bool) (v : ℕ) (distances : List (Option ℕ)) : Type 0 where
  pub sized : length distances ≡ length graph
  pub exact : (w : ℕ) (distance : Option ℕ) → slice_get distances w ≡ Some distance → IsDistanceTo graph stop v w distance

-- THE NEAREST

-- a vertex of a row with its distance
pub record IsWay (stop : List Bool) (distances : List (Option ℕ)) (row : List ℕ) (way : Way) : Type 0 where
  pub there : Contains row way.vertex
  pub free : IsUnmarked stop way.vertex
  pub at : slice_get distances way.vertex ≡ Some (Some way.distance)

-- nearer, or as near and no later
abbrev pub IsUpTo : Way → Way → Type 0
IsUpTo a b = (a.distance < b.distance) ⊎ ((a.distance ≡ b.distance) × (a.vertex ≤ b.vertex))

-- one of the two, and up to both
pub record IsNearer (held : Option Way) (way result : Way) : Type 0 where
  pub one : (held ≡ Some result) ⊎ (result ≡ way)
  pub up_to : IsUpTo result way
  pub up_to_held : (other : Way) → held ≡ Some other → IsUpTo result other

abbrev pub IsNearest : (stop : List Bool) → (distances : List (Option ℕ)) → (row : List ℕ) → Option Way → Type 0
IsNearest stop distances row None = (way : Way) → IsWay stop distances row way → ⊥
IsNearest stop distances row (Some way) = IsWay stop distances row way × ((other : Way) → IsWay stop distances row other → IsUpTo way other)

abbrev pub IsNearestFrom : List (Vec ℕ Global) → (stop : List Bool) → (distances : List (Option ℕ)) → (v : ℕ) → Option Way → Type 0
IsNearestFrom graph stop distances v nearest = (row : Vec ℕ Global) × (slice_get graph v ≡ Some row) × IsNearest stop distances row.items nearest
