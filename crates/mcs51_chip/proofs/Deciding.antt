-- What decides a step: the interrupt that comes, or the instruction that stands at PC.
use Rattle.std.proofs.Common.{◌≡◌, ℕ, ◌-◌, ◌<◌, ◌==◌, Bool, true, false, cond, List, Option, Some, Result, slice_index, refl, ap, ◌∙◌, arith}
use Rattle.std.proofs.lemmas.Bool.Decides.{nat_tests}
use Rattle.mcs51_decode.specs.declared.instr.Instr.{Instr}
use Rattle.mcs51_decode.specs.declared.refusal.NoInstr.{NoInstr}
use Rattle.mcs51_decode.specs.Decoding.{decoded}
use Rattle.choosing.specs.Asking.{Asking, continued}
use Rattle.mcs51_chip.specs.declared.state.ChipState.{ChipState}
use Rattle.mcs51_chip.specs.Interrupts.{coming}
use Rattle.mcs51_chip.specs.Step.{entered, interrupt_option, run, taken, step_of}

step_by : (image : List (Option ℕ)) (s : ChipState) (choices left : List ℕ) (option : ℕ) → interrupt_option s choices ≡ Some (option, left)
    → step_of image s choices ≡ taken image s option left
unfolding step_of
step_by image s choices left option e = ap (continued (taken image s)) e

pub instruction_runs : (image : List (Option ℕ)) (s : ChipState) (choices left : List ℕ) (found : Result (Instr × ℕ) NoInstr)
    → interrupt_option s choices ≡ Some (0, left)
    → decoded image s.pc ≡ found → step_of image s choices ≡ run image s found left
instruction_runs image s choices left found e is = step_by image s choices left 0 e ∙ ap (λ f. run image s f left) is

second_of : {A : Type 0} (b : Bool) (f g : Asking A) (choices : List ℕ) → b ≡ false → cond b f g choices ≡ g choices
second_of false f g choices e = refl
second_of true f g choices e = absurd cc

pub entry_comes : (image : List (Option ℕ)) (s : ChipState) (choices left : List ℕ) (option : ℕ)
    → interrupt_option s choices ≡ Some (option, left) → 0 < option
    → step_of image s choices ≡ Some (entered s (slice_index (coming s) (option - 1)), left)
entry_comes image s choices left option e some =
    let other : (option == 0) ≡ false = grind (arith, nat_tests, some) in
    step_by image s choices left option e ∙ second_of (option == 0) (run image s (decoded image s.pc)) _ left other
