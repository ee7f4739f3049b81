-- What holds in front of an instruction. Proofs above take these laws from a record.
use Rattle.std.specs.Prelude.{◌≡◌, ℕ, Bool, Option, List, [], ◌∷◌}
use Rattle.chip_numbers.specs.Single.Single.{Instr as Ran}
use Rattle.mcs51_decode.specs.declared.instr.Instr.{Instr}
use Rattle.mcs51_decode.specs.Encoding.{bytes_of}
use Rattle.mcs51_chip.specs.declared.state.ChipState.{ChipState}
use Rattle.mcs51_chip.specs.Leading.{MayDo}
use Rattle.mcs51_chip.specs.Step.{Effect, Outcome, stepped}
use Rattle.mcs51_state.specs.Forms.{IsKnown}
use Rattle.mcs51_state.specs.Known.{Known}
use Rattle.mcs51_state.specs.Under.{IsUnder}
use Rattle.mcs51_kept.specs.Front.{front}
use Rattle.mcs51_kept.specs.Keeping.{IsKept}
use Rattle.promises.specs.declared.promise.Promise.{Promise}

-- What is known in front of an instruction is in form, with the same of all but cells of RAM. Where a step of the instruction
-- keeps the promises, the state in front of it stands under what is known there. Without promises each step keeps them.
pub record FrontLaws : Type 0 where
  pub form : (image : List (Option ℕ)) (promises : List Promise) (framed : Bool) (a : Known) (pc : ℕ) (instr : Instr)
      → IsKnown framed a → IsKnown framed (front image promises a pc instr)
  pub same : (image : List (Option ℕ)) (promises : List Promise) (a : Known) (pc : ℕ) (instr : Instr)
      → let b = front image promises a pc instr in b ≡ record a { cells = b.cells }
  pub holds : (image : List (Option ℕ)) (promises : List Promise) (framed : Bool) (a : Known) (s : ChipState)
      (first : Option ChipState) (instr : Instr) (effect : Effect) → IsUnder framed a s first → MayDo image s instr effect
      → IsKept image promises (stepped s (Ran s.pc (bytes_of instr) ∷ []) effect)
      → IsUnder framed (front image promises a s.pc instr) s first
  pub none : (image : List (Option ℕ)) (outcome : Outcome) → IsKept image [] outcome
