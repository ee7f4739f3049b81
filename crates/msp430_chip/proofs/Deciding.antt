-- What decides a step: the interrupt that comes, or the instruction that stands at PC.
use Rattle.std.proofs.Common.{◌≡◌, ℕ, ◌-◌, ◌<◌, ◌==◌, Bool, true, false, cond, List, Some, Result, slice_index, refl, ap, ◌∙◌, arith}
use Rattle.std.proofs.lemmas.Bool.Decides.{nat_tests}
use Rattle.msp430_decode.specs.declared.instr.Instr.{Instr}
use Rattle.msp430_decode.specs.declared.refusal.NoInstr.{NoInstr}
use Rattle.msp430_decode.specs.Decoding.{decoded}
use Rattle.choosing.specs.Asking.{Asking, continued}
use Rattle.msp430_chip.specs.declared.device.Device.{Device}
use Rattle.msp430_chip.specs.declared.state.ChipState.{ChipState}
use Rattle.msp430_chip.specs.Interrupts.{coming, enter}
use Rattle.msp430_chip.specs.State.{register_of}
use Rattle.msp430_chip.specs.Step.{interrupt_option, run, taken, step_of}

step_by : (device : Device) (s : ChipState) (choices left : List ℕ) (option : ℕ) → interrupt_option device s choices ≡ Some (option, left)
    → step_of device s choices ≡ taken device s (coming device s) option left
unfolding step_of
step_by device s choices left option e = ap (continued (taken device s (coming device s))) e

pub instruction_runs : (device : Device) (s : ChipState) (choices left : List ℕ) (found : Result (Instr × ℕ) NoInstr)
    → interrupt_option device s choices ≡ Some (0, left)
    → decoded device.image (register_of s 0) ≡ found → step_of device s choices ≡ run device s found left
instruction_runs device s choices left found e is = step_by device s choices left 0 e ∙ ap (λ f. run device s f left) is

second_of : {A : Type 0} (b : Bool) (f g : Asking A) (choices : List ℕ) → b ≡ false → cond b f g choices ≡ g choices
second_of false f g choices e = refl
second_of true f g choices e = absurd cc

pub entry_comes : (device : Device) (s : ChipState) (choices left : List ℕ) (option : ℕ)
    → interrupt_option device s choices ≡ Some (option, left) → 0 < option
    → step_of device s choices ≡ enter device s (slice_index (coming device s) (option - 1)) left
entry_comes device s choices left option e some =
    let other : (option == 0) ≡ false = grind (arith, nat_tests, some) in
    step_by device s choices left option e ∙ second_of (option == 0) (run device s (decoded device.image (register_of s 0))) _ left other
