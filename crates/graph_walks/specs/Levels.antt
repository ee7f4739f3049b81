-- How distances are found, level by level.
use Rattle.std.specs.Prelude.{◌≡◌, ℕ, ◌+◌, ◌<◌, ◌≤◌, ◌⊎◌, Bool, Some, List, Contains, Vec, count_by, is_none, length, slice_get}
use Rattle.std.specs.declared.alloc.Global.{Global}
use Rattle.graph_walks.specs.Graphs.{GoesOn, IsMarked}
use Rattle.graph_walks.specs.Reached.{HasWalk}
use Rattle.graph_walks.specs.declared.levels.Level.{Level}

-- the vertex has this distance
abbrev pub IsAt : Level → ℕ → ℕ → Type 0
IsAt level distance v = slice_get level.distances.items v ≡ Some (Some distance)

-- how many vertices have no distance, or stand in the front
abbrev pub left_in : Level → ℕ
left_in level = count_by is_none level.distances.items + length level.front.items

-- Each vertex that was led to has a distance: the one that it had, or this one, and then it stands in the front.
pub record IsSpread (Led : ℕ → Type 0) (distance : ℕ) (old new : Level) : Type 0 where
  pub sized : length new.distances.items ≡ length old.distances.items
  pub kept : (v d : ℕ) → IsAt old d v → IsAt new d v
  pub made : (v d : ℕ) → IsAt new d v → IsAt old d v ⊎ ((d ≡ distance) × Contains new.front.items v × Led v)
  pub stays : (v : ℕ) → Contains old.front.items v → Contains new.front.items v
  pub front : (v : ℕ) → Contains new.front.items v → Contains old.front.items v ⊎ IsAt new distance v
  pub led : (v : ℕ) → Led v → (d : ℕ) × IsAt new d v
  pub counted : left_in new ≡ left_in old

-- the starts have distance 0 and are the front, and no other vertex has a distance
pub record IsFirstLevel (from : List Bool) (level : Level) : Type 0 where
  pub sized : length level.distances.items ≡ length from
  pub starts : (v : ℕ) → IsMarked from v → IsAt level 0 v
  pub only : (v d : ℕ) → IsAt level d v → (d ≡ 0) × Contains level.front.items v × IsMarked from v
  pub front : (v : ℕ) → Contains level.front.items v → IsAt level 0 v
  pub counted : left_in level ≡ length from

-- the vertices that edges lead to from those of a front that are no stops
abbrev pub IsLedFrom : List (Vec ℕ Global) → (stop : List Bool) → (front : List ℕ) → ℕ → Type 0
IsLedFrom graph stop front v = (a : ℕ) × Contains front a × GoesOn graph stop a v

-- Each vertex that a walk of at most so many edges reaches has its distance. Those that only one of so many reaches are the front.
pub record IsLevel (graph : List (Vec ℕ Global)) (from stop : List Bool) (distance : ℕ) (level : Level) : Type 0 where
  pub sized : length level.distances.items ≡ length graph
  pub walks : (v d : ℕ) → IsAt level d v → (d ≤ distance) × HasWalk graph from stop d v
  pub starts : (v : ℕ) → IsMarked from v → IsAt level 0 v
  pub goes_on : (a b d : ℕ) → IsAt level d a → d < distance → GoesOn graph stop a b → (e : ℕ) × IsAt level e b × (e ≤ d + 1)
  pub front : (v : ℕ) → IsAt level distance v → Contains level.front.items v
  pub at_distance : (v : ℕ) → Contains level.front.items v → IsAt level distance v
  pub counted : left_in level + distance ≤ length graph
