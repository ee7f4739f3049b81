-- Two ascending lists, walked along side by side.
use Rattle.std.specs.Prelude.{ℕ, nat_lt, nat_le, if◌then◌else◌, Bool, true, false, List, [], ◌∷◌, length, Option, Some, None}
use Rattle.value_set.specs.declared.form.Form.{Form}
use Rattle.value_set.specs.declared.form.Form.TheVariants.{Values, Run}

-- the numbers of both in order, each once
unfoldable pub merge : List ℕ → List ℕ → List ℕ
merge [] ys = ys
merge (x ∷ xs) [] = x ∷ xs
merge (x ∷ xs) (y ∷ ys) =
    if nat_lt x y then x ∷ merge xs (y ∷ ys)
    else if nat_lt y x then y ∷ merge (x ∷ xs) ys
    else x ∷ merge xs ys

-- whether each number of the first is one of the second
unfoldable pub is_sublist : List ℕ → List ℕ → Bool
is_sublist [] ys = true
is_sublist (x ∷ xs) [] = false
is_sublist (x ∷ xs) (y ∷ ys) =
    if nat_lt x y then false
    else if nat_lt y x then is_sublist (x ∷ xs) ys
    else is_sublist xs ys

-- a list of at most 16
abbrev pub if_few : List ℕ → Option (List ℕ)
if_few xs = if nat_le (length xs) 16 then Some xs else None

-- one of two sets is a run
abbrev pub HasRun : Form → Form → Type 0
HasRun (Values xs) (Values ys) = ⊥
HasRun (Values xs) (Run q) = Unit {0}
HasRun (Run p) second = Unit {0}
