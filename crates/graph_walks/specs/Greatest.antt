-- The greatest of what is left behind the edges of a vertex.
use Rattle.std.specs.Prelude.{◌≡◌, ℕ, ◌≤◌, Bool, false, Option, Some, None, List, Contains, if◌then◌else◌, max, slice_index_or}

-- what the dearest leg costs behind an edge to a vertex: nothing, where it is a stop
abbrev pub left_behind : (stop : List Bool) → (longest : List (Option ℕ)) → ℕ → Option ℕ
left_behind stop longest v = if slice_index_or stop v false then Some 0 else slice_index_or longest v None

abbrev pub greater : Option ℕ → Option ℕ → Option ℕ
greater None b = b
greater (Some a) None = Some a
greater (Some a) (Some b) = Some (max a b)

-- the greatest that is left behind one of some vertices, where anything is
abbrev pub IsGreatest : (ℕ → Option ℕ) → List ℕ → Option ℕ → Type 0
IsGreatest left row None = (v : ℕ) → Contains row v → left v ≡ None
IsGreatest left row (Some most) = ((v : ℕ) × Contains row v × (left v ≡ Some most)) × ((v cost : ℕ) → Contains row v → left v ≡ Some cost → cost ≤ most)
