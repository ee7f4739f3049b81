-- The premise of laws on what an instruction leads to: what is known, in an interrupt's frame or in none, stands for a state
-- of the chip over the one that an interrupt suspended first.
use Rattle.std.specs.Prelude.{◌≡◌, Bool, true, false, Option, None, Some}
use Rattle.mcs51_chip.specs.declared.state.ChipState.{ChipState}
use Rattle.mcs51_state.specs.Forms.{IsKnown}
use Rattle.mcs51_state.specs.Holding.{HoldsOf}
use Rattle.mcs51_state.specs.Known.{Known}

-- a state is suspended exactly in an interrupt's frame
abbrev pub IsFramed : Bool → Option ChipState → Type 0
IsFramed false first = first ≡ None
IsFramed true None = ⊥
IsFramed true (Some f) = Unit {0}

pub record IsUnder (framed : Bool) (known : Known) (s : ChipState) (first : Option ChipState) : Type 0 where
  pub base : IsFramed framed first
  pub form : IsKnown framed known
  pub holds : HoldsOf known s first
