-- An instruction comes to what is said where each number that the chip may read leads to it.
use Rattle.std.proofs.Common.{ℕ, subst, sym}
use Rattle.choosing.specs.Asking.{Asking}
use Rattle.choosing.specs.Gives.{Gives, weaken}
use Rattle.mcs51_chip.specs.Leading.{IsOfOne}
use Rattle.mcs51_chip.specs.Step.{Effect}

pub of_one : (Is : Effect → Type 0) (May : ℕ → Type 0) (leads : ℕ → Effect) (asking : Asking Effect) → Gives (IsOfOne May leads) asking
    → ((x : ℕ) → May x → Is (leads x)) → Gives Is asking
of_one Is May leads asking gives each = weaken (IsOfOne May leads) Is asking (λ effect is. subst Is (sym is.2) (each is.0 is.1)) gives
