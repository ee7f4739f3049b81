-- What a step leads to.
use Rattle.std.specs.Prelude.{List}

-- the next state, with what the step did in its order, or out of what the model says, with the cause
pub data Outcome (I S W : Type 0) : Type 0 where
  Next : (items : List I) (state : S) → Outcome I S W
  Wild : (cause : W) → Outcome I S W
