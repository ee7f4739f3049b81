-- Runs of a chip up to the first step that breaks what somebody promises of the program.
use Rattle.std.specs.Prelude.{◌≡◌, ◌↔◌, ℕ, Bool, true, Some, List, ◌++◌, length, slice_get, All, Contains}
use Rattle.std.specs.List.{take_while}
use Rattle.chip_law.specs.Machine.{Machine}
use Rattle.chip_law.specs.Outcome.{Outcome, Leaving}
use Rattle.chip_law.specs.Outcome.Outcome.{Next, Wild}
use Rattle.chip_law.specs.Runs.{GoesWild, Leads, Meets, RunsBy, RunsTo}
use Rattle.chip_numbers.specs.Single.{Single}

-- A machine of which some steps alone are made: those that go on are kept by what they did, and those that leave the model by
-- the state in front and the cause.
module _ {S : Type 0} (keeps : List Single → Bool) (leaves : S → Leaving → Bool) (m : Machine S) where
  abbrev pub KeptStep : S → Outcome S → Type 0
  KeptStep s (Next items t) = m.Step s (Next items t) × (keeps items ≡ true)
  KeptStep s (Wild why) = m.Step s (Wild why) × (leaves s why ≡ true)

  abbrev pub kept : Machine S
  kept = record { pc = m.pc; IsReset = m.IsReset; Step = KeptStep }

-- WHAT ITS RUNS ARE, IN WORDS OF THE MACHINE WITH ALL STEPS

module _ {S : Type 0} (keeps : List Single → Bool) (m : Machine S) where
  -- some run of n steps, each of them kept, ends in the state
  pub record RunsInFront (n : ℕ) (s : S) : Type 0 where
    pub steps : List (List Single)
    pub number : length steps ≡ n
    pub all : All (λ items. keeps items ≡ true) steps
    pub runs : RunsBy m steps s

  -- some run meets the item in the step behind its first n, where that one and those in front of it are kept
  pub record MeetsInFront (n : ℕ) (item : Single) : Type 0 where
    pub steps : List (List Single)
    pub end : S
    pub runs : RunsBy m steps end
    pub items : List Single
    pub met : slice_get (take_while keeps steps) n ≡ Some items
    pub contains : Contains items item

module _ {S : Type 0} (keeps : List Single → Bool) (leaves : S → Leaving → Bool) (m : Machine S) where
  -- some run leaves the model in the step behind its first n, where that one and those in front of it are kept
  pub record GoesWildInFront (n : ℕ) : Type 0 where
    pub s : S
    pub why : Leaving
    pub runs : RunsInFront keeps m n s
    pub step : m.Step s (Wild why)
    pub keeps_so : leaves s why ≡ true

  -- a run in two parts: the steps in front of the first one that isn't kept, and the others
  pub record IsCut (steps : List (List Single)) (t : S) : Type 0 where
    pub others : List (List Single)
    pub parts : take_while keeps steps ++ others ≡ steps
    pub at : S
    pub front : RunsBy (kept keeps leaves m) (take_while keeps steps) at
    pub goes_on : Leads m at others t

  -- WHAT HOLDS OF EVERY MACHINE

  -- the front of a run of m is a run of the machine of kept steps, which has no others
  pub record RunsUpTo : Type 0 where
    pub cut : (steps : List (List Single)) (t : S) → RunsBy m steps t → IsCut steps t
    pub runs : (n : ℕ) (s : S) → RunsTo (kept keeps leaves m) n s ↔ RunsInFront keeps m n s
    pub meets : (n : ℕ) (item : Single) → Meets (kept keeps leaves m) n item ↔ MeetsInFront keeps m n item
    pub wild : (n : ℕ) → GoesWild (kept keeps leaves m) n ↔ GoesWildInFront n

-- two machines have the same runs
pub record RunAlike {S : Type 0} (one other : Machine S) : Type 0 where
  pub runs : (n : ℕ) (s : S) → RunsTo one n s ↔ RunsTo other n s
  pub meets : (n : ℕ) (item : Single) → Meets one n item ↔ Meets other n item
  pub wild : (n : ℕ) → GoesWild one n ↔ GoesWild other n
