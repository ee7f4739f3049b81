-- Returns among the candidates.
use Rattle.std.specs.Prelude.{ℕ, List}
use Rattle.round_core.specs.declared.place.Place.{Place}
use Rattle.round_core.specs.declared.place.Place.TheVariants as place
use Rattle.round_core.specs.Agenda.{IsIn}

-- the returns to a place from each exit of a frame are candidates
abbrev pub HasReturnsTo : List Place → ℕ → List ℕ → Type 0
HasReturnsTo candidates node exits = (exit : ℕ) → IsIn exit exits → IsIn (place.Back node exit) candidates

-- the returns from an exit to each place that waits for its frame
abbrev pub HasReturnsFrom : List Place → List ℕ → ℕ → Type 0
HasReturnsFrom candidates nodes exit = (node : ℕ) → IsIn node nodes → IsIn (place.Back node exit) candidates
