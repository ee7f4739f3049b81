-- How a change of what is known follows a change of the chip's state.
use Rattle.std.specs.Prelude.{Bool, Option, option_map, ℕ}
use Rattle.entry_value.specs.declared.byte.Byte.{Byte}
use Rattle.entry_value.specs.Words.{HoldsOfByte}
use Rattle.mcs51_chip.specs.declared.state.ChipState.{ChipState}
use Rattle.mcs51_state.specs.Forms.{IsByte, IsKnown}
use Rattle.mcs51_state.specs.Known.{Known}
use Rattle.mcs51_state.specs.Places.{suspended_of}
use Rattle.mcs51_state.specs.Under.{IsUnder}

-- the change keeps the form of what is known
abbrev pub KeepsForm : (framed : Bool) → (change : Known → Known) → Type 0
KeepsForm framed change = (known : Known) → IsKnown framed known → IsKnown framed (change known)

-- where a state stands under what is known, it does so behind both changes
abbrev pub Follows : (framed : Bool) → (first : Option ChipState) → (change : Known → Known) → (step : ChipState → ChipState) → Type 0
Follows framed first change step =
    (known : Known) (s : ChipState) → IsUnder framed known s first → IsUnder framed (change known) (step s) first

-- a byte in form that holds of a number, over the state that an interrupt suspended first
pub record IsValue (framed : Bool) (first : Option ChipState) (byte : Byte) (x : ℕ) : Type 0 where
  pub form : IsByte framed byte
  pub holds : HoldsOfByte (option_map suspended_of first) byte x
