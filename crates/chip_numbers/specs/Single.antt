-- What one step of a chip does, in single numbers.
use Rattle.std.specs.Prelude.{ℕ, Bool, List}
use Rattle.chip_numbers.specs.declared.space.Space.{Space}

pub data Single : Type 0 where
  -- the instruction of these bytes runs
  Instr : (pc : ℕ) (bytes : List ℕ) → Single
  -- control goes from one address to the other
  Edge : (origin target : ℕ) → Single
  -- a byte or a word is read or written
  Access : (pc : ℕ) (space : Space) (write : Bool) (size address : ℕ) → Single
  -- the stack pointer before the step
  Stack : (pc sp : ℕ) → Single
