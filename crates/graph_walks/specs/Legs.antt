-- Legs, which end at the next stop, and what they cost.
use Rattle.std.specs.Prelude.{◌≡◌, ℕ, ◌+◌, ◌≤◌, Bool, Option, Some, None, List, [], ◌∷◌, Vec, length, slice_get, slice_index}
use Rattle.std.specs.declared.alloc.Global.{Global}
use Rattle.graph_walks.specs.Graphs.{Enters, HasEdge, IsMarked, Leads}

-- a walk to no stops, and behind it an edge to a stop: the vertices behind the first, up to the last that is no stop
pub record IsLeg (graph : List (Vec ℕ Global)) (stop : List Bool) (v : ℕ) (walk : List ℕ) : Type 0 where
  pub last : ℕ
  pub leads : Leads (Enters graph stop) v walk last
  pub end : ℕ
  pub edge : HasEdge graph last end
  pub ends : IsMarked stop end

-- what the vertices cost that it goes on from
abbrev pub leg_cost : (costs : List ℕ) → ℕ → List ℕ → ℕ
leg_cost costs v [] = slice_index costs v
leg_cost costs v (next ∷ behind) = slice_index costs v + leg_cost costs next behind

pub record HasLeg (graph : List (Vec ℕ Global)) (costs : List ℕ) (stop : List Bool) (v cost : ℕ) : Type 0 where
  pub walk : List ℕ
  pub leg : IsLeg graph stop v walk
  pub is : leg_cost costs v walk ≡ cost

-- what the dearest leg from a vertex costs, where one begins there
abbrev pub IsLongest : List (Vec ℕ Global) → (costs : List ℕ) → (stop : List Bool) → ℕ → Option ℕ → Type 0
IsLongest graph costs stop v None = (walk : List ℕ) → IsLeg graph stop v walk → ⊥
IsLongest graph costs stop v (Some cost) = HasLeg graph costs stop v cost × ((walk : List ℕ) → IsLeg graph stop v walk → leg_cost costs v walk ≤ cost)

pub record AreLongest (graph : List (Vec ℕ Global)) (costs : List ℕ) (stop : List Bool) (longest : List (Option ℕ)) : Type 0 where
  pub sized : length longest ≡ length graph
  pub exact : (v : ℕ) (cost : Option ℕ) → slice_get longest v ≡ Some cost → IsLongest graph costs stop v cost
