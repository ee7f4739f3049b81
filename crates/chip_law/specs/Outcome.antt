-- What a step of a chip leads to.
use Rattle.std.specs.Prelude.{ℕ, List}
use Rattle.chip_numbers.specs.Single.{Single}

-- why a step leads out of what the model says
pub data Leaving : Type 0 where
  -- an instruction is to run where none stands
  no_instruction : Leaving
  -- the store of an instruction writes this byte of the program
  program_written : (at : ℕ) → Leaving
  -- the entry of an interrupt pushes over this byte of the program
  entry_pushed : (at : ℕ) → Leaving

-- what a step leads to: the next state with what the step did, or out of what the model says
pub data Outcome (S : Type 0) : Type 0 where
  Next : (items : List Single) (state : S) → Outcome S
  Wild : (why : Leaving) → Outcome S
