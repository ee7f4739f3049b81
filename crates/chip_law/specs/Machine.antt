-- What a chip does, in single states. A reader of a theorem on runs has to believe this, and no more.
use Rattle.std.specs.Prelude.{ℕ}
use Rattle.chip_law.specs.Outcome.{Outcome}

-- S are the states of the chip
pub record Machine (S : Type 0) : Type 1 where
  -- the address of the instruction that is next
  pub pc : S → ℕ
  -- the states that reset may leave
  pub IsReset : S → Type 0
  -- what a state may lead to, by one instruction or by one interrupt's entry
  pub Step : S → Outcome S → Type 0
