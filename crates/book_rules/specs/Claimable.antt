-- How many units can be claimed.
use Rattle.std.specs.Prelude.{ℕ, ◌≤◌, List, length}
use Rattle.std.specs.List.{AllByRecursion, IsDistinct}
use Rattle.call_context.specs.declared.node.Unit.{Unit as WorkUnit}
use Rattle.book_rules.specs.Machine.{BookState, IsClaimable}
use Rattle.book_rules.specs.Same.{same_unit}

-- at least so many units can be claimed
pub record HasAtLeast {A : Type 0} (b : BookState A) (least : ℕ) : Type 0 where
  pub units : List WorkUnit
  pub distinct : IsDistinct same_unit units
  pub claimable : AllByRecursion (IsClaimable b) units
  pub enough : least ≤ length units
