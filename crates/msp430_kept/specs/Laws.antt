-- What holds in front of an instruction. Proofs above take these laws from a record.
use Rattle.std.specs.Prelude.{◌≡◌, ℕ, Bool, Ok, Option, List, []}
use Rattle.msp430_decode.specs.declared.instr.Instr.{Instr}
use Rattle.msp430_decode.specs.Decoding.{decoded}
use Rattle.msp430_chip.specs.declared.device.Device.{Device}
use Rattle.msp430_chip.specs.declared.state.ChipState.{ChipState}
use Rattle.msp430_chip.specs.Leading.{MayRun}
use Rattle.msp430_chip.specs.Outcome.{Outcome}
use Rattle.msp430_chip.specs.State.{register_of}
use Rattle.msp430_state.specs.Forms.{IsKnown}
use Rattle.msp430_state.specs.Known.{Known}
use Rattle.msp430_alu.specs.Formats.{IsUnder}
use Rattle.msp430_kept.specs.Front.{front}
use Rattle.msp430_kept.specs.Keeping.{IsKept}
use Rattle.promises.specs.declared.promise.Promise.{Promise}

-- What is known in front of an instruction is in form, with the same of SP, SR and interrupts. Where a step of the instruction
-- keeps the promises, the state in front of it stands under what is known there. Without promises each step keeps them.
pub record FrontLaws : Type 0 where
  pub form : (device : Device) (promises : List Promise) (lo hi : ℕ) (framed : Bool) (a : Known) (pc : ℕ) (instr : Instr)
      → IsKnown lo hi framed a → IsKnown lo hi framed (front device promises a pc instr)
  pub same : (device : Device) (promises : List Promise) (a : Known) (pc : ℕ) (instr : Instr)
      → let b = front device promises a pc instr in (b.sp ≡ a.sp) × (b.status ≡ a.status) × (b.late ≡ a.late)
  pub holds : (device : Device) (promises : List Promise) (framed : Bool) (a : Known) (s : ChipState) (first : Option ChipState)
      (instr : Instr) (len : ℕ) (outcome : Outcome ChipState)
      → IsUnder device framed a s first → decoded device.image (register_of s 0) ≡ Ok (instr, len)
      → MayRun device s instr len outcome → IsKept device promises s outcome
      → IsUnder device framed (front device promises a (register_of s 0) instr) s first
  pub none : (device : Device) (s : ChipState) (outcome : Outcome ChipState) → IsKept device [] s outcome
