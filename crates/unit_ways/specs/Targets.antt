-- The addresses of a set, from the least one to the greatest.
use Rattle.std.specs.Prelude.{ℕ, ◌+◌, ◌-◌, ◌/◌, nat_lt, Bool, List, ◌++◌, take, drop}
use Rattle.value_set.specs.declared.form.Form.{Form}
use Rattle.value_set.specs.declared.form.Form.TheVariants.{Values, Run}
use Rattle.value_set.specs.declared.form.Progression.{Progression}
use Rattle.value_set.specs.Form.{members}
use Rattle.value_set.specs.Summing.{count_of}

-- how many numbers from the base of a run on stand in front of its turn at 65536
abbrev pub ahead_of_turn : Progression → ℕ
ahead_of_turn p = (65535 - p.base) / p.stride + 1

-- what stands behind the first few, and then these
abbrev pub turned : {X : Type 0} → ℕ → List X → List X
turned few xs = drop few xs ++ take few xs

-- how many members of a set stand in front of its turn; a list has none
abbrev pub turn_of : Form → ℕ
turn_of (Values xs) = 0
turn_of (Run p) = ahead_of_turn p

-- a list as it stands; of a run that goes round the part behind the turn first
abbrev pub targets_of : Form → List ℕ
targets_of (Values xs) = xs
targets_of (Run p) = turned (ahead_of_turn p) (members 65536 (Run p))

-- more addresses than are followed
abbrev pub are_too_many : (limit : ℕ) → Form → Bool
are_too_many limit targets = nat_lt limit (count_of 65536 targets)
