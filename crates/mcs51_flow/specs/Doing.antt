-- What it means that an instruction does what is said of it: it lands at one of the targets, or goes one of the two ways of a jump.
-- In the state s that it works on, PC is the address behind it; pc is its own address.
use Rattle.std.specs.Prelude.{ℕ, ◌<◌, Bool, Option, List, IfSome}
use Rattle.call_context.specs.declared.shown.Item.{Item}
use Rattle.value_set.specs.Form.{IsNormal}
use Rattle.mcs51_chip.specs.declared.state.ChipState.{ChipState}
use Rattle.mcs51_chip.specs.Step.{Effect}
use Rattle.mcs51_state.specs.Forms.{IsKnown}
use Rattle.mcs51_state.specs.Known.{Known}
use Rattle.mcs51_state.specs.Doing.{GoesSo, LandsSo}
use Rattle.mcs51_flow.specs.declared.ran.Way.{Way}
use Rattle.mcs51_flow.specs.declared.ran.Way.TheVariants.{Lands, Goes}
use Rattle.mcs51_flow.specs.Running.{Ran}

abbrev pub IsWaySo : (framed : Bool) → (first : Option ChipState) → List Item → (pc : ℕ) → Way Known → (s : ChipState) → Effect → Type 0
IsWaySo framed first items pc (Lands targets behind) s effect = LandsSo framed first items pc targets behind effect
IsWaySo framed first items pc (Goes target on jumped) s effect = GoesSo framed first items pc target on jumped s effect

abbrev pub RunsSo : (framed : Bool) → (first : Option ChipState) → (pc : ℕ) → Ran → (s : ChipState) → Effect → Type 0
RunsSo framed first pc ran s effect = IsWaySo framed first ran.items pc ran.way s effect

-- the sets of a way are in their one form, its addresses are those of the program memory, and what is known there is in form
abbrev pub IsWay : (framed : Bool) → Way Known → Type 0
IsWay framed (Lands targets behind) = IsNormal 65536 targets × IsKnown framed behind
IsWay framed (Goes target on jumped) = (target < 65536) × IfSome on (IsKnown framed) × IfSome jumped (IsKnown framed)
