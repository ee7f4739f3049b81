-- What holds of every run of a chip where a book breaks none, or some, of a list of assertions.
use Rattle.std.specs.Prelude.{◌≡◌, ℕ, false, List, Contains}
use Rattle.chip_law.specs.Machine.{Machine}
use Rattle.chip_law.specs.Runs.{GoesWild, Meets}
use Rattle.chip_numbers.specs.Single.{Single}
use Rattle.assert_check.specs.Assertions.{breaks}
use Rattle.assert_check.specs.declared.assertion.Assertion.{Assertion}
use Rattle.assert_check.specs.declared.deciding.Broken.{Broken}

-- Nothing that a run meets breaks an assertion of the list, and no run leaves the model.
pub record Holds {S : Type 0} (machine : Machine S) (list : List (ℕ × Assertion)) : Type 0 where
  pub unbroken : (n line : ℕ) (assertion : Assertion) (single : Single) → Contains list (line, assertion)
      → Meets machine n single → breaks assertion single ≡ false
  pub stays : (n : ℕ) → GoesWild machine n → ⊥

-- the assertion of a line isn't named as broken
abbrev pub IsUnnamed : List Broken → (line : ℕ) → Type 0
IsUnnamed broken line = (one : Broken) → Contains broken one → one.line ≡ line → ⊥

-- Nothing that a run meets breaks an assertion of the list whose line isn't named as broken, and no run leaves the model.
pub record HoldsBut {S : Type 0} (machine : Machine S) (list : List (ℕ × Assertion)) (broken : List Broken) : Type 0 where
  pub unbroken : (n line : ℕ) (assertion : Assertion) (single : Single) → Contains list (line, assertion)
      → IsUnnamed broken line → Meets machine n single → breaks assertion single ≡ false
  pub stays : (n : ℕ) → GoesWild machine n → ⊥
