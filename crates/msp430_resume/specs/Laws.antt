-- What holds where a suspended state goes on. Proofs above take these laws from one record.
use Rattle.call_context.specs.declared.node.Frame.TheVariants.{Irq}
use Rattle.msp430_chip.specs.State.{register_of}
use Rattle.msp430_chip.specs.declared.device.Device.{Device}
use Rattle.msp430_chip.specs.declared.state.ChipState.{ChipState}
use Rattle.msp430_resume.specs.Resume.{resumed_known}
use Rattle.msp430_state.specs.Forms.{IsEvenWord, IsKnown}
use Rattle.msp430_state.specs.Holding.{CameAt, GoesOn, HoldsOf}
use Rattle.msp430_state.specs.Known.{Known}
use Rattle.std.specs.Prelude.{Bool, None, Option, Some, false, true, ℕ, ◌<◌, ◌≡◌}
use Rattle.value_set.specs.Joining.{is_in}

-- What a handler left stands, where it goes on, under what `resumed_known` says, with the state that was suspended before. The
-- stack pointer at which the interrupt came is one of those that are known there. What goes on is in form.
pub record ResumptionLaws : Type 0 where
  pub covers : (device : Device) (framed : Bool) (a exit : Known) (f t : ChipState) (first : Option ChipState)
      (vector sp level : ℕ)
      → device.ram.hi < 65536 → (framed ≡ false → first ≡ None) → IsKnown device.ram.lo device.ram.hi framed a
      → IsKnown device.ram.lo device.ram.hi true exit → HoldsOf device a f first → HoldsOf device exit t (Some f)
      → GoesOn (Irq vector (Some sp) level) t (Some f)
      → HoldsOf device (resumed_known framed a (register_of f 0) sp exit) t first
  pub has : (device : Device) (a : Known) (f : ChipState) (first : Option ChipState) (sp : ℕ)
      → HoldsOf device a f first → CameAt (Some sp) f → is_in 65536 a.sp sp ≡ true
  pub form : (lo hi : ℕ) (framed : Bool) (a exit : Known) (pc sp : ℕ) → hi < 65536 → IsKnown lo hi framed a
      → IsKnown lo hi true exit → IsEvenWord pc → IsEvenWord sp
      → IsKnown lo hi framed (resumed_known framed a pc sp exit)
