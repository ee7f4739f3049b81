-- How a chip runs, as a trace sees it.
use Rattle.std.specs.Prelude.{◌≡◌, ℕ, Option, None, Some, List, map}
use Rattle.chip_numbers.specs.Single.{Single}
use Rattle.call_context.specs.declared.shown.Item.{Item}
use Rattle.choosing.specs.Outcome.{Outcome}
use Rattle.choosing.specs.Outcome.Outcome.{Next, Wild as Leaves}
use Rattle.run_trace.specs.declared.emulator.Ran.{Ran}
use Rattle.run_trace.specs.declared.emulator.Ran.TheVariants.{Met, Wild, NeedChoice}

-- the step from a state by choices, with those that are left; the address of a state; and the item with sets of one value
-- that shows what was met
pub record Runner (S W : Type 0) : Type 0 where
  pub step : S → List ℕ → Option (Outcome Single S W × List ℕ)
  pub pc : S → ℕ
  pub item : Single → Item

-- a step from a state by choices, to a state with those that are left
abbrev pub IsStep : {S W : Type 0} → Runner S W → S → List ℕ → Ran → S → List ℕ → Type 0
IsStep runner s choices (Met items) t left =
    (singles : List Single) × (runner.step s choices ≡ Some (Next singles t, left)) × (items.items ≡ map runner.item singles)
IsStep {W = W} runner s choices Wild t left = (cause : W) × (rest : List ℕ) × (runner.step s choices ≡ Some (Leaves cause, rest))
IsStep runner s choices NeedChoice t left = runner.step s choices ≡ None
