-- Runs of a chip from reset, and what is met on them.
use Rattle.std.specs.Prelude.{◌≡◌, ℕ, zero, suc, List, [], ◌∷◌, Contains}
use Rattle.chip_law.specs.Machine.{Machine}
use Rattle.chip_numbers.specs.Single.{Single}
use Rattle.chip_law.specs.Outcome.{Leaving}
use Rattle.chip_law.specs.Outcome.Outcome.{Next, Wild}

module _ {S : Type 0} (m : Machine S) where
  -- some run of n steps from a reset state ends in the state
  abbrev pub RunsTo : ℕ → S → Type 0
  RunsTo zero s = m.IsReset s
  RunsTo (suc n) t = (s : S) × (items : List Single) × RunsTo n s × m.Step s (Next items t)

  -- some run meets the item in the step behind its first n steps
  abbrev pub Meets : ℕ → Single → Type 0
  Meets n item = (s : S) × (items : List Single) × (t : S) × RunsTo n s × m.Step s (Next items t) × Contains items item

  -- some run leaves the model in the step behind its first n steps
  abbrev pub GoesWild : ℕ → Type 0
  GoesWild n = (s : S) × (why : Leaving) × RunsTo n s × m.Step s (Wild why)

  -- steps, the first one first and each by what it did, lead from one state to another
  abbrev pub Leads : S → List (List Single) → S → Type 0
  Leads s [] t = s ≡ t
  Leads s (items ∷ later) t = (next : S) × m.Step s (Next items next) × Leads next later t

  -- some run from a reset state makes these steps and ends in the state
  abbrev pub RunsBy : List (List Single) → S → Type 0
  RunsBy steps t = (s : S) × m.IsReset s × Leads s steps t
