-- What the MSP430 does (SLAU049, MSP430x1xx Family User's Guide), in single states.
use Rattle.std.specs.Prelude.{◌≡◌, ℕ, Bool, true, Some, List, [], ◌∷◌}
use Rattle.chip_law.specs.Kept.{kept}
use Rattle.chip_law.specs.Machine.{Machine}
use Rattle.chip_law.specs.Outcome.{Outcome, Leaving}
use Rattle.chip_law.specs.Outcome.Leaving.{entry_pushed, no_instruction, program_written}
use Rattle.chip_law.specs.Outcome.Outcome.{Next, Wild}
use Rattle.msp430_chip.specs.declared.device.Device.{Device}
use Rattle.msp430_chip.specs.declared.state.ChipState.{ChipState}
use Rattle.msp430_chip.specs.declared.state.Wild.{Wild as WildCause}
use Rattle.msp430_chip.specs.declared.state.Wild.TheVariants.{NoInstr, Push, Store}
use Rattle.choosing.specs.Outcome.Outcome.{Next as Onward, Wild as Leaves}
use Rattle.msp430_chip.specs.State.{register_of, IsResetOf}
use Rattle.msp430_chip.specs.Step.{step_of}
use Rattle.msp430_flow.specs.declared.setting.Setting.{Setting}
use Rattle.msp430_kept.specs.Keeping.{keeps_store}
use Rattle.msp430_kept.specs.Sites.{spoken}
use Rattle.promises.specs.Keeping.{keeps}
use Rattle.promises.specs.declared.promise.Promise.{Promise}

abbrev pub leaving_of : WildCause → Leaving
leaving_of (NoInstr refusal) = no_instruction
leaving_of (Store at) = program_written at
leaving_of (Push at) = entry_pushed at

-- what a state may lead to: by some choices the chip's step has this outcome, whatever choices are left
abbrev pub StepsTo : Device → ChipState → Outcome ChipState → Type 0
StepsTo device s (Next items t) = (choices left : List ℕ) × (step_of device s choices ≡ Some (Onward items t, left))
StepsTo device s (Wild why) = (choices : List ℕ) × (cause : WildCause) × (left : List ℕ)
    × (step_of device s choices ≡ Some (Leaves cause, left)) × (leaving_of cause ≡ why)

unfoldable pub msp430_machine : Device → Machine ChipState
msp430_machine device = record { pc = λ s. register_of s 0; IsReset = IsResetOf device; Step = StepsTo device }

-- WHAT IS PROMISED

-- whether a state may leave the model so: no promise speaks of what isn't the store of an instruction
abbrev pub leaves : Device → List Promise → ChipState → Leaving → Bool
leaves device promises s (program_written at) = keeps_store device promises s at
leaves device promises s no_instruction = true
leaves device promises s (entry_pushed at) = true

-- of the steps from a state those that keep the promises; without promises these are all
abbrev pub machine_under : Device → List Promise → Machine ChipState
machine_under device [] = msp430_machine device
machine_under device (promise ∷ promises) =
    kept (keeps (spoken device.image) (promise ∷ promises)) (leaves device (promise ∷ promises)) (msp430_machine device)

abbrev pub machine_if : Setting → Machine ChipState
machine_if setting = machine_under setting.device setting.promises
