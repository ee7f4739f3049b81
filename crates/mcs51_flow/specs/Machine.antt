-- What the MCS-51 does (Intel, MCS-51 Programmer's Guide and Instruction Set), in single states.
use Rattle.std.specs.Prelude.{◌≡◌, ℕ, true, Option, Some, List, [], ◌∷◌}
use Rattle.chip_law.specs.Kept.{kept}
use Rattle.chip_law.specs.Machine.{Machine}
use Rattle.chip_law.specs.Outcome.{Outcome, Leaving}
use Rattle.chip_law.specs.Outcome.Leaving.{no_instruction}
use Rattle.chip_law.specs.Outcome.Outcome.{Next, Wild}
use Rattle.choosing.specs.Outcome.Outcome.{Next as Onward, Wild as Leaves}
use Rattle.mcs51_decode.specs.declared.refusal.NoInstr.{NoInstr}
use Rattle.mcs51_chip.specs.declared.state.ChipState.{ChipState}
use Rattle.mcs51_chip.specs.State.{IsReset}
use Rattle.mcs51_chip.specs.Step.{step_of}
use Rattle.mcs51_kept.specs.Sites.{spoken}
use Rattle.promises.specs.Keeping.{keeps}
use Rattle.promises.specs.declared.promise.Promise.{Promise}
use Rattle.mcs51_flow.specs.declared.setting.Setting.{Setting}

-- A program can't be written: a state leaves the model only where no instruction stands at PC.
abbrev pub leaving_of : NoInstr → Leaving
leaving_of refusal = no_instruction

-- what a state may lead to: by some choices the chip's step has this outcome, whatever choices are left
abbrev pub StepsTo : List (Option ℕ) → ChipState → Outcome ChipState → Type 0
StepsTo image s (Next items t) = (choices left : List ℕ) × (step_of image s choices ≡ Some (Onward items t, left))
StepsTo image s (Wild why) = (choices : List ℕ) × (cause : NoInstr) × (left : List ℕ)
    × (step_of image s choices ≡ Some (Leaves cause, left)) × (leaving_of cause ≡ why)

unfoldable pub mcs51_machine : List (Option ℕ) → Machine ChipState
mcs51_machine image = record { pc = λ s. s.pc; IsReset = IsReset; Step = StepsTo image }

-- WHAT IS PROMISED

-- Of the steps from a state those that keep the promises; no promise speaks of one that leaves the model. Without promises these
-- are all.
abbrev pub machine_under : List (Option ℕ) → List Promise → Machine ChipState
machine_under image [] = mcs51_machine image
machine_under image (promise ∷ promises) = kept (keeps (spoken image) (promise ∷ promises)) (λ s why. true) (mcs51_machine image)

abbrev pub machine_if : Setting → Machine ChipState
machine_if setting = machine_under setting.image setting.promises
