-- How calls ask: an answer, and the choices that it leaves.
use Rattle.std.specs.Prelude.{ℕ, Option, None, Some, List}

-- what a call answered, with the choices that it left
abbrev pub asked : {A : Type 0} → Option A → List ℕ → Option (A × List ℕ)
asked None left = None
asked (Some a) left = Some (a, left)

-- the same, where what it answered is read as something else
abbrev pub asked_as : {A B : Type 0} → (A → B) → Option A → List ℕ → Option (B × List ℕ)
asked_as read None left = None
asked_as read (Some a) left = Some (read a, left)
