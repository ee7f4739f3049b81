-- The widest gap met so far, and the numbers still to come.
use Rattle.std.specs.Prelude.{◌≡◌, ℕ, ◌+◌, ◌<◌, ◌↔◌, nat_lt, if◌then◌else◌, Bool, true, false, List, [], ◌∷◌, slice_index_or}
use Rattle.std.specs.List.{Contains}
use Rattle.value_set.specs.Form.{behind_widest}
use Rattle.value_set.specs.declared.gap.Gap.{Gap}

-- the number behind the widest gap, once these come too
abbrev pub decided : Gap → List ℕ → ℕ
decided gap xs = behind_widest gap.base gap.width gap.previous xs

-- of ascending numbers, those from a number on
abbrev pub onward : ℕ → List ℕ → List ℕ
onward from [] = []
onward from (x ∷ xs) = if nat_lt x from then onward from xs else x ∷ xs

-- the lesser of two numbers
abbrev pub lesser : ℕ → ℕ → ℕ
lesser a b = if nat_lt b a then b else a

-- of the 4096 numbers from low on, just those of a list are marked
abbrev pub HasMarks : (low : ℕ) (numbers : List ℕ) (marked : List Bool) → Type 0
HasMarks low numbers marked = (place : ℕ) → place < 4096 → (slice_index_or marked place false ≡ true) ↔ Contains numbers (low + place)
