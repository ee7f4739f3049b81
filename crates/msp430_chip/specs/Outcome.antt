-- What a step leads to.
use Rattle.std.specs.Prelude.{ℕ, Option, None, Some, List}
use Rattle.chip_numbers.specs.Single.{Single}
use Rattle.choosing.specs.Outcome.{Outcome as OutcomeBy}
use Rattle.choosing.specs.Outcome.Outcome.{Next, Wild as Leaves}
use Rattle.msp430_chip.specs.declared.state.Wild.{Wild}

-- the next state, with what the step did in its order, or out of what the model says
abbrev pub Outcome : Type 0 → Type 0
Outcome S = OutcomeBy Single S Wild

-- where a store or a push hits the program, the state leaves the model
abbrev pub unless_hit : {S : Type 0} → (ℕ → Wild) → Option ℕ → List Single → S → Outcome S
unless_hit why (Some at) items state = Leaves (why at)
unless_hit why None items state = Next items state
