-- Circles without a stop, and which one is answered.
use Rattle.std.specs.Prelude.{◌≡◌, ℕ, ◌<◌, ◌≤◌, ◌⊎◌, Bool, Option, Some, None, List, [], ◌∷◌, Vec, length}
use Rattle.std.specs.declared.alloc.Global.{Global}
use Rattle.graph_walks.specs.Graphs.{Enters, Leads}

-- From the vertex along these it leads back to it. Each edge leads to no stop, so none of the vertices is one.
abbrev pub IsCircle : List (Vec ℕ Global) → (stop : List Bool) → ℕ → List ℕ → Type 0
IsCircle graph stop v [] = ⊥
IsCircle graph stop v (next ∷ behind) = Leads (Enters graph stop) v (next ∷ behind) v

-- where they differ first the first list has the lesser number
abbrev pub ComesFirst : List ℕ → List ℕ → Type 0
ComesFirst [] ys = Unit {0}
ComesFirst (x ∷ xs) [] = ⊥
ComesFirst (x ∷ xs) (y ∷ ys) = (x < y) ⊎ ((x ≡ y) × ComesFirst xs ys)

abbrev pub HasCircle : List (Vec ℕ Global) → (stop : List Bool) → ℕ → Type 0
HasCircle graph stop v = (behind : List ℕ) × IsCircle graph stop v behind

-- the shortest circle through a vertex, of equally short ones the first by the numbers
pub record IsShortest (graph : List (Vec ℕ Global)) (stop : List Bool) (v : ℕ) (behind : List ℕ) : Type 0 where
  pub circle : IsCircle graph stop v behind
  pub shortest : (other : List ℕ) → IsCircle graph stop v other → length behind ≤ length other
  pub first : (other : List ℕ) → IsCircle graph stop v other → length other ≡ length behind → ComesFirst behind other

-- its vertices, the first one again at the end
abbrev pub IsShortestOf : List (Vec ℕ Global) → (stop : List Bool) → ℕ → List ℕ → Type 0
IsShortestOf graph stop v [] = ⊥
IsShortestOf graph stop v (first ∷ behind) = (first ≡ v) × IsShortest graph stop v behind

-- that of the least vertex that has one
pub record IsFirstCircle (graph : List (Vec ℕ Global)) (stop : List Bool) (circle : List ℕ) : Type 0 where
  pub vertex : ℕ
  pub shortest : IsShortestOf graph stop vertex circle
  pub least : (w : ℕ) → HasCircle graph stop w → vertex ≤ w

abbrev pub HasNoCircle : List (Vec ℕ Global) → (stop : List Bool) → Type 0
HasNoCircle graph stop = (v : ℕ) → HasCircle graph stop v → ⊥

abbrev pub IsCircleAnswer : List (Vec ℕ Global) → (stop : List Bool) → Option (Vec ℕ Global) → Type 0
IsCircleAnswer graph stop None = HasNoCircle graph stop
IsCircleAnswer graph stop (Some circle) = IsFirstCircle graph stop circle.items
