-- The numbers that widening stops at.
use Rattle.std.specs.Prelude.{ℕ, ◌+◌, nat_lt, if◌then◌else◌, Option, None, Some, List, [], ◌∷◌, ◌++◌}
use Rattle.std.specs.List.{flat_map, range_with_len}

-- a number below m
abbrev pub mark : (m : ℕ) → ℕ → List ℕ
mark m n = if nat_lt n m then n ∷ [] else []

-- a constant and the number behind it
abbrev pub marks_by : (m : ℕ) → Option ℕ → List ℕ
marks_by m None = []
marks_by m (Some n) = mark m n ++ mark m (n + 1)

-- those of so many numbers, from a first one on
unfoldable pub marks_along : (found : ℕ → List ℕ) → (first count : ℕ) → List ℕ
marks_along found first count = flat_map found (range_with_len first count)
