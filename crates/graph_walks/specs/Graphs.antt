-- Graphs whose vertices are numbers, and walks along their edges. A graph has for each vertex the vertices that its edges lead to.
use Rattle.std.specs.Prelude.{◌≡◌, ℕ, ◌<◌, Bool, true, false, Some, List, [], ◌∷◌, Contains, Vec, length, slice_get}
use Rattle.std.specs.declared.alloc.Global.{Global}

abbrev pub HasEdge : List (Vec ℕ Global) → ℕ → ℕ → Type 0
HasEdge graph a b = (row : Vec ℕ Global) × (slice_get graph a ≡ Some row) × Contains row.items b

-- each edge leads to a vertex
abbrev pub IsGraph : List (Vec ℕ Global) → Type 0
IsGraph graph = (a b : ℕ) → HasEdge graph a b → b < length graph

-- MARKS, one for each vertex

abbrev pub IsMarked : List Bool → ℕ → Type 0
IsMarked marks v = slice_get marks v ≡ Some true

abbrev pub IsUnmarked : List Bool → ℕ → Type 0
IsUnmarked marks v = slice_get marks v ≡ Some false

-- STEPS along one edge

-- from a vertex that is no stop
abbrev pub GoesOn : List (Vec ℕ Global) → (stop : List Bool) → ℕ → ℕ → Type 0
GoesOn graph stop a b = IsUnmarked stop a × HasEdge graph a b

-- to a vertex that is no stop
abbrev pub Enters : List (Vec ℕ Global) → (stop : List Bool) → ℕ → ℕ → Type 0
Enters graph stop a b = HasEdge graph a b × IsUnmarked stop b

-- WALKS

-- whether steps lead from a vertex along a list of vertices, and by the last of them to another
abbrev pub Leads : (ℕ → ℕ → Type 0) → ℕ → List ℕ → ℕ → Type 0
Leads Step a [] b = a ≡ b
Leads Step a (next ∷ behind) b = Step a next × Leads Step next behind b
