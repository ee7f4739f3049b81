-- What holds where a suspended state goes on. Proofs above take these laws from one record.
use Rattle.std.specs.Prelude.{◌≡◌, ◌<◌, ℕ, Bool, true, Option, Some}
use Rattle.call_context.specs.declared.node.Frame.TheVariants.{Irq}
use Rattle.value_set.specs.Joining.{is_in}
use Rattle.mcs51_chip.specs.declared.state.ChipState.{ChipState}
use Rattle.mcs51_state.specs.Forms.{IsKnown}
use Rattle.mcs51_state.specs.Holding.{CameAt, GoesOn, HoldsOf}
use Rattle.mcs51_state.specs.Known.{Known}
use Rattle.mcs51_state.specs.Under.{IsUnder}
use Rattle.mcs51_resume.specs.Resume.{resumed_known}

-- What a handler left stands, where it goes on, under what `resumed_known` says, with the state that was suspended before. The
-- stack pointer at which the interrupt came is one of those that are known there. What goes on is in form.
pub record ResumptionLaws : Type 0 where
  pub covers : (framed : Bool) (a exit : Known) (f t : ChipState) (first : Option ChipState) (vector sp level : ℕ)
      → IsUnder framed a f first → IsUnder true exit t (Some f) → GoesOn (Irq vector (Some sp) level) t (Some f)
      → IsUnder framed (resumed_known framed a f.pc sp exit) t first
  pub has : (a : Known) (f : ChipState) (first : Option ChipState) (sp : ℕ) → HoldsOf a f first → CameAt (Some sp) f
      → is_in 256 a.sp sp ≡ true
  pub form : (framed : Bool) (a exit : Known) (pc sp : ℕ) → IsKnown framed a → IsKnown true exit → pc < 65536 → sp < 256
      → IsKnown framed (resumed_known framed a pc sp exit)
