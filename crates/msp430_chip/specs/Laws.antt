-- What holds of all steps, and of all places of operands. Proofs above take these laws from records.
use Rattle.std.specs.Prelude.{◌≡◌, ◌++◌, ◌+◌, ◌%◌, ◌<◌, ◌≤◌, ℕ, All, List, Some, length}
use Rattle.image.specs.Image.{IsByte}
use Rattle.chip_numbers.specs.Single.{Single}
use Rattle.choosing.specs.Gives.{Gives}
use Rattle.choosing.specs.Outcome.Outcome.{Next}
use Rattle.msp430_decode.specs.declared.instr.Instr.{Instr}
use Rattle.msp430_decode.specs.declared.instr.Register.{Register}
use Rattle.msp430_decode.specs.declared.instr.Width.{Width}
use Rattle.msp430_decode.specs.declared.instr.Width.TheVariants.{Word}
use Rattle.msp430_chip.specs.declared.device.Device.{Device}
use Rattle.msp430_chip.specs.declared.state.ChipState.{ChipState}
use Rattle.msp430_chip.specs.Kinds.{Kind}
use Rattle.msp430_chip.specs.Leading.{MayLead, MayRun}
use Rattle.msp430_chip.specs.Memory.{HasRam, aligned, size_of}
use Rattle.msp430_chip.specs.Outcome.{Outcome}
use Rattle.msp430_chip.specs.State.{IsChipState}
use Rattle.msp430_chip.specs.Step.{Step, executed, step_of}

-- What an instruction of so many bytes leads to, format by format, and what a step leads to, as relations in which no choices
-- stand (`Leading.antt`). A step needs a front of the choices and leaves the others, and no list of choices has two fronts with
-- a step. It keeps the form of states, where the device's image has 65536 places, each with a byte or with none; no step asks
-- more of the addresses of RAM.
pub record StepLaws : Type 0 where
  pub format : (device : Device) (s : ChipState) (instr : Instr) (len : ℕ)
      → Gives (MayRun device s instr len) (executed device s instr len)
  pub lead : (device : Device) (s : ChipState) → length device.image ≡ 65536 → All IsByte device.image
      → Gives (MayLead device s) (step_of device s)
  pub front : (device : Device) (s : ChipState) (choices rest : List ℕ) (outcome : Outcome ChipState)
      → step_of device s choices ≡ Some (outcome, rest)
      → (front : List ℕ) × (choices ≡ front ++ rest) × Step device s front outcome
  pub onward : (device : Device) (s : ChipState) (front rest : List ℕ) (outcome : Outcome ChipState)
      → Step device s front outcome → step_of device s (front ++ rest) ≡ Some (outcome, rest)
  pub one : (device : Device) (s : ChipState) (front other rest more : List ℕ) (outcome another : Outcome ChipState)
      → front ++ rest ≡ other ++ more → Step device s front outcome → Step device s other another
      → (front ≡ other) × (outcome ≡ another)
  pub keep : (device : Device) (s t : ChipState) (choices : List ℕ) (items : List Single)
      → length device.image ≡ 65536 → All IsByte device.image → IsChipState device s
      → Step device s choices (Next items t) → IsChipState device t

-- A register is PC, SP, SR or R3, or it is one of R4 to R15, which are alike. On a device with RAM the access at an address is
-- made in memory, and that of a word at an even address.
pub record PlaceLaws : Type 0 where
  pub kinds : (register : Register) → Kind register
  pub even : (device : Device) (at : ℕ) → HasRam device → aligned device Word at % 2 ≡ 0
  pub fits : (device : Device) (width : Width) (at : ℕ) → HasRam device → at < 65536
      → aligned device width at + size_of width ≤ 65536
