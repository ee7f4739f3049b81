-- How components are found: the vertices that are held lie on a walk of parts.
use Rattle.std.specs.Prelude.{◌≡◌, ℕ, ◌+◌, ◌-◌, ◌*◌, ◌<◌, ◌≤◌, ◌⊎◌, ◌↔◌, ◌++◌, ◌∷◌, [], Bool, true, false, Option, None, Some, List, Contains, Vec, count_by, drop, length, map, replicate, set, slice_get, take}
use Rattle.std.specs.declared.alloc.Global.{Global}
use Rattle.graph_walks.specs.Components.{AreComponents, IsDone, Reaches}
use Rattle.graph_walks.specs.Graphs.{Enters, IsUnmarked}
use Rattle.graph_walks.specs.declared.components.Mark.{Mark}
use Rattle.graph_walks.specs.declared.components.Mark.TheVariants.{Unseen, Held, Done}
use Rattle.graph_walks.specs.declared.components.Visit.{Visit}
use Rattle.graph_walks.specs.declared.components.Search.{Search}

abbrev pub IsMark : Search → Mark → ℕ → Type 0
IsMark s mark v = slice_get s.marks.items v ≡ Some mark

abbrev pub IsVisit : Search → ℕ → Visit → Type 0
IsVisit s place visit = slice_get s.held.items place ≡ Some visit

-- the edge of this number
abbrev pub IsEdge : List (Vec ℕ Global) → ℕ → ℕ → ℕ → Type 0
IsEdge graph a number b = (row : Vec ℕ Global) × (slice_get graph a ≡ Some row) × (slice_get row.items number ≡ Some b)

abbrev pub IsAscending : List ℕ → Type 0
IsAscending xs = (i j a b : ℕ) → i < j → slice_get xs i ≡ Some a → slice_get xs j ≡ Some b → a < b

-- the second place is in the part of the first or in one behind it
abbrev pub IsBehind : (bounds : List ℕ) → ℕ → ℕ → Type 0
IsBehind bounds p q = (bound : ℕ) → Contains bounds bound → bound ≤ p → bound ≤ q

-- each vertex that is held knows its place
pub record ArePlaced (graph : List (Vec ℕ Global)) (s : Search) : Type 0 where
  pub sized : length s.marks.items ≡ length graph
  pub marked : (place : ℕ) (visit : Visit) → IsVisit s place visit → IsMark s (Held place) visit.vertex
  pub held : (v place : ℕ) → IsMark s (Held place) v → (visit : Visit) × IsVisit s place visit × (visit.vertex ≡ v)

pub record AreBounds (s : Search) : Type 0 where
  pub bounds : IsAscending s.bounds.items
  pub within : (bound : ℕ) → Contains s.bounds.items bound → bound < length s.held.items
  pub first : 0 < length s.held.items → Contains s.bounds.items 0
  pub pending : IsAscending s.pending.items
  pub inside : (place : ℕ) → Contains s.pending.items place → place < length s.held.items

-- an edge from a place to this vertex needs no look any more
abbrev pub IsPassed : Search → (place v : ℕ) → Type 0
IsPassed s place v = ((component : ℕ) × IsDone s.marks.items component v) ⊎ ((q : ℕ) × IsMark s (Held q) v × IsBehind s.bounds.items place q)

pub record AreLinked (graph : List (Vec ℕ Global)) (stop : List Bool) (s : Search) : Type 0 where
  pub ended : (place : ℕ) (visit : Visit) → IsVisit s place visit
      → Contains s.pending.items place ⊎ ((number v : ℕ) → IsEdge graph visit.vertex number v → number < visit.next)
  pub passed : (place : ℕ) (visit : Visit) (number v : ℕ) → IsVisit s place visit → number < visit.next → IsEdge graph visit.vertex number v → IsUnmarked stop v
      → IsPassed s place v
  pub linked : (p q : ℕ) (a b : Visit) → IsVisit s p a → IsVisit s q b → IsBehind s.bounds.items p q → Reaches graph stop a.vertex b.vertex

pub record IsSearch (graph : List (Vec ℕ Global)) (stop : List Bool) (s : Search) : Type 0 where
  pub placed : ArePlaced graph s
  pub bounds : AreBounds s
  pub links : AreLinked graph stop s
  pub components : AreComponents graph stop s.marks.items s.order.items

-- whether a vertex was seen
abbrev pub is_unseen : Mark → Bool
is_unseen Unseen = true
is_unseen (Held place) = false
is_unseen (Done component) = false

abbrev pub IsSeen : Search → ℕ → Type 0
IsSeen s v = (mark : Mark) × IsMark s mark v × (is_unseen mark ≡ false)

abbrev pub KeepsSeen : Search → Search → Type 0
KeepsSeen old new = (v : ℕ) → IsSeen old v → IsSeen new v

-- how much is left to do
abbrev pub work_left : Search → ℕ
work_left s = 3 * count_by is_unseen s.marks.items + (length s.pending.items + length s.bounds.items)

-- STEPS

pub record IsCleared (count : ℕ) (s : Search) : Type 0 where
  pub marks : s.marks.items ≡ replicate count Unseen
  pub held : s.held.items ≡ []
  pub bounds : s.bounds.items ≡ []
  pub pending : s.pending.items ≡ []
  pub order : s.order.items ≡ []

pub record IsHolding (vertex : ℕ) (old new : Search) : Type 0 where
  pub marks : new.marks.items ≡ set old.marks.items vertex (Held (length old.held.items))
  pub held : new.held.items ≡ old.held.items ++ record { vertex = vertex; next = 0 } ∷ []
  pub bounds : new.bounds.items ≡ old.bounds.items ++ length old.held.items ∷ []
  pub pending : new.pending.items ≡ old.pending.items ++ length old.held.items ∷ []
  pub order : new.order.items ≡ old.order.items

-- the bounds up to a place are left
pub record IsMerged (place : ℕ) (old new : List ℕ) : Type 0 where
  pub ascending : IsAscending new
  pub shorter : length new ≤ length old
  pub bounds : (bound : ℕ) → Contains new bound ↔ (Contains old bound × (bound ≤ place))

-- the vertices of the visits are in the component now
pub record IsAssigned (visits : List Visit) (component : ℕ) (old new : List Mark) (old_order new_order : List ℕ) : Type 0 where
  pub sized : length new ≡ length old
  pub assigned : (visit : Visit) → Contains visits visit → IsDone new component visit.vertex
  pub from : (v : ℕ) (mark : Mark) → slice_get new v ≡ Some mark
      → (slice_get old v ≡ Some mark) ⊎ ((mark ≡ Done component) × (visit : Visit) × Contains visits visit × (visit.vertex ≡ v))
  pub kept : (v : ℕ) (mark : Mark) → slice_get old v ≡ Some mark
      → (slice_get new v ≡ Some mark) ⊎ ((visit : Visit) × Contains visits visit × (visit.vertex ≡ v))
  pub order : new_order ≡ old_order ++ map (λ (visit : Visit). visit.vertex) visits
  pub unseen : count_by is_unseen new ≤ count_by is_unseen old

pub record IsFinished (start : ℕ) (old new : Search) : Type 0 where
  pub assigned : IsAssigned (drop start old.held.items) (length old.order.items) old.marks.items new.marks.items old.order.items new.order.items
  pub held : new.held.items ≡ take start old.held.items
  pub bounds : new.bounds.items ≡ take (length old.bounds.items - 1) old.bounds.items
  pub pending : new.pending.items ≡ old.pending.items

-- the place is in the last part
pub record IsLooking (graph : List (Vec ℕ Global)) (stop : List Bool) (place : ℕ) (s : Search) : Type 0 where
  pub search : IsSearch graph stop s
  pub within : place < length s.held.items
  pub last : (bound : ℕ) → Contains s.bounds.items bound → bound ≤ place

-- a vertex that wasn't seen is led to, or no edge is left
abbrev pub IsFound : List (Vec ℕ Global) → (stop : List Bool) → (place : ℕ) → Search → Option ℕ → Type 0
IsFound graph stop place s None = (visit : Visit) → IsVisit s place visit → (number v : ℕ) → IsEdge graph visit.vertex number v → number < visit.next
IsFound graph stop place s (Some v) = (visit : Visit) × IsVisit s place visit × Enters graph stop visit.vertex v × IsMark s Unseen v

pub record IsLooked (graph : List (Vec ℕ Global)) (stop : List Bool) (place : ℕ) (old new : Search) (found : Option ℕ) : Type 0 where
  pub looking : IsLooking graph stop place new
  pub marks : new.marks.items ≡ old.marks.items
  pub pending : new.pending.items ≡ old.pending.items
  pub shorter : length new.bounds.items ≤ length old.bounds.items
  pub leads : IsFound graph stop place new found

-- the last place that is pending, where it is in the last part
abbrev pub IsToLook : (start : ℕ) → (pending : List ℕ) → Option ℕ → Type 0
IsToLook start pending None = (place : ℕ) → Contains pending place → place < start
IsToLook start pending (Some place) = (start ≤ place) × (slice_get pending (length pending - 1) ≡ Some place)

pub record IsStep (graph : List (Vec ℕ Global)) (stop : List Bool) (old new : Search) : Type 0 where
  pub search : IsSearch graph stop new
  pub seen : KeepsSeen old new
  pub less : work_left new < work_left old

-- all that a vertex leads to is in a component
pub record IsExplored (graph : List (Vec ℕ Global)) (stop : List Bool) (vertex : ℕ) (old new : Search) : Type 0 where
  pub search : IsSearch graph stop new
  pub ended : length new.held.items ≡ 0
  pub seen : KeepsSeen old new
  pub found : IsSeen new vertex
