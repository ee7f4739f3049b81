-- What holds of all instructions.
use Rattle.std.specs.Prelude.{ℕ, All, Bool, List, Option}
use Rattle.choosing.specs.Gives.{Gives}
use Rattle.image.specs.Image.{IsByte}
use Rattle.mcs51_decode.specs.declared.instr.Instr.{Instr}
use Rattle.mcs51_decode.specs.Fitting.{IsInstr}
use Rattle.mcs51_decode.specs.Targets.{following}
use Rattle.mcs51_chip.specs.declared.state.ChipState.{ChipState}
use Rattle.mcs51_chip.specs.Step.{effect_of, going_to}
use Rattle.mcs51_state.specs.Forms.{IsKnown}
use Rattle.mcs51_state.specs.Known.{Known}
use Rattle.mcs51_state.specs.Under.{IsUnder}
use Rattle.mcs51_flow.specs.Doing.{IsWay, RunsSo}
use Rattle.mcs51_flow.specs.Running.{ran_of}

-- An instruction of the chip does what is said of it: its accesses are shown, and it goes on where this says, in a state that
-- stands under what is known there. The sets and states that are said are in form.
pub record RunLaws : Type 0 where
  pub runs : (framed : Bool) (a : Known) (s : ChipState) (first : Option ChipState) (image : List (Option ℕ)) (pc : ℕ)
      (instr : Instr)
      → IsUnder framed a s first → IsInstr instr → All IsByte image
      → Gives (RunsSo framed first pc (ran_of image framed pc a instr) (going_to (following pc instr) s))
      (effect_of image (going_to (following pc instr) s) instr)
  pub form : (framed : Bool) (a : Known) (image : List (Option ℕ)) (pc : ℕ) (instr : Instr) → IsKnown framed a
      → IsInstr instr → All IsByte image → IsWay framed (ran_of image framed pc a instr).way
