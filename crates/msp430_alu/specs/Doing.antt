-- What an instruction comes to, by what is made of what is known of the state that it works on.
use Rattle.chip_numbers.specs.Single.{Single}
use Rattle.msp430_alu.specs.Formats.{AreShown, IsHit, IsLeft, IsUnder, Worked}
use Rattle.msp430_chip.specs.Outcome.{Outcome}
use Rattle.msp430_chip.specs.State.{register_of}
use Rattle.msp430_chip.specs.Step.{Left, done}
use Rattle.msp430_chip.specs.declared.device.Device.{Device}
use Rattle.msp430_chip.specs.declared.state.ChipState.{ChipState}
use Rattle.msp430_decode.specs.declared.instr.Instr.{Instr}
use Rattle.msp430_decode.specs.declared.instr.Width.{Width}
use Rattle.msp430_state.specs.Forms.{IsKnown}
use Rattle.msp430_state.specs.Known.{Known}
use Rattle.std.specs.Prelude.{Bool, List, Option, Some, ℕ, ◌%◌, ◌≡◌}
use Rattle.value_set.specs.Form.{IsNormal}
use Rattle.value_set.specs.Remainders.{HasRemainder}

-- the state that an instruction works on, in an interrupt's frame or in none, with the state that was suspended, and what is known
pub record Here : Type 0 where
  pub device : Device
  pub framed : Bool
  pub known : Known
  pub state : ChipState
  pub first : Option ChipState

abbrev pub here_at : Device → (framed : Bool) → Known → ChipState → (first : Option ChipState) → Here
here_at device framed a s first = record { device = device; framed = framed; known = a; state = s; first = first }

-- where it stands under what is known
abbrev pub StandsHere : Here → Type 0
StandsHere here = IsUnder here.device here.framed here.known here.state here.first

abbrev pub counter_of : Here → ℕ
counter_of here = register_of here.state 0

-- Registers and RAM that an instruction leaves stand under what is known after it, with PC at one of its next addresses. Its items
-- show each access, and a store that hits the program is at one of the addresses of its store, which has this width.
pub record ComesTo (here : Here) (made : Worked) (instr : Instr) (width : Width) (left : Left)
    (outcome : Outcome ChipState) : Type 0 where
  pub accesses : List Single
  pub outcome_is : outcome ≡ done here.state instr accesses left
  pub left_so : IsLeft here.device made.after here.first made.next left
  pub shown : AreShown made.accesses accesses
  pub hit : (at : ℕ) → left.hit ≡ Some at → IsHit here.device width made.store at

-- what is known after an instruction is in form, and its next addresses are even where the one behind it is
pub record IsWellMade (device : Device) (framed : Bool) (behind : ℕ) (made : Worked) : Type 0 where
  pub form : IsKnown device.ram.lo device.ram.hi framed made.after
  pub next : IsNormal 65536 made.next
  pub even : behind % 2 ≡ 0 → HasRemainder 65536 2 0 made.next
