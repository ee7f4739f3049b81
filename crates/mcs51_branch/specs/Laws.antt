-- What holds on the ways of conditional jumps. Proofs above take these laws from one record.
use Rattle.std.specs.Prelude.{◌≡◌, ◌==◌, ◌+◌, ◌%◌, ◌<◌, ℕ, Bool, Option, Some, nat_lt, not}
use Rattle.std.specs.Int.{bit_at}
use Rattle.value_set.specs.declared.form.Form.{Form}
use Rattle.value_set.specs.Form.{Has, IsNormal}
use Rattle.mcs51_decode.specs.declared.instr.Condition.{Condition}
use Rattle.mcs51_chip.specs.declared.place.Address.{Address}
use Rattle.mcs51_chip.specs.declared.state.ChipState.{ChipState}
use Rattle.mcs51_chip.specs.Leading.{MayRead}
use Rattle.mcs51_chip.specs.Registers.{bit_of, with_carry}
use Rattle.mcs51_chip.specs.Step.{holds}
use Rattle.mcs51_state.specs.declared.fact.Compared.{Compared}
use Rattle.mcs51_state.specs.Forms.{IsCompared, IsKnown}
use Rattle.mcs51_state.specs.Holding.{compared_in}
use Rattle.mcs51_state.specs.Known.{Known}
use Rattle.mcs51_state.specs.Under.{IsUnder}
use Rattle.mcs51_branch.specs.declared.operand.Operand.{Operand}
use Rattle.mcs51_branch.specs.declared.window.Window.{Window}
use Rattle.mcs51_branch.specs.Cuts.{IsInside, place_cut, with_set}
use Rattle.mcs51_branch.specs.Jumps.{IsNumberOf, IsOperand, comparison_cut, compared_with, condition_cut, lowered_cut}
use Rattle.mcs51_branch.specs.Testing.{IsPlace, bit_tested}

-- A state that stands under what is known in front of a jump stands under what is known on the way that the chip goes: by
-- its condition, behind CJNE with the CY that it writes, and DJNZ's lowered byte is one of its numbers there. What is known on
-- each way is in form. Of A or a byte of RAM any set may be known that has it, and so may what is left in a window where it stands.
pub record JumpsHold : Type 0 where
  pub condition : (framed : Bool) (known : Known) (s : ChipState) (first : Option ChipState) (condition : Condition)
      → IsUnder framed known s first
      → (way : Known) × (condition_cut condition (holds condition s) known ≡ Some way) × IsUnder framed way s first
  pub condition_form : (framed : Bool) (known way : Known) (condition : Condition) (taken : Bool)
      → IsKnown framed known → condition_cut condition taken known ≡ Some way → IsKnown framed way
  pub comparison : (framed : Bool) (known : Known) (s : ChipState) (first : Option ChipState) (operand : Operand)
      (x value : ℕ)
      → IsUnder framed known s first → IsOperand operand → IsNumberOf operand s x → value < 256
      → (way : Known) × (comparison_cut operand value (not (x == value)) known ≡ Some way) × IsUnder framed way
      (with_carry (bit_of (nat_lt x value)) s) first
  pub comparison_form : (framed : Bool) (known way : Known) (operand : Operand) (value : ℕ) (taken : Bool)
      → IsKnown framed known → IsOperand operand → value < 256 → comparison_cut operand value taken known ≡ Some way
      → IsKnown framed way
  pub with_byte : (framed : Bool) (known : Known) (s : ChipState) (first : Option ChipState) (set : Form) (x : ℕ)
      → IsUnder framed known s first → Has 256 set x
      → IsUnder framed (compared_with set known) (with_carry (bit_of (nat_lt s.a x)) s) first
  pub lowered : (set : Form) (x : ℕ) → IsNormal 256 set → Has 256 set x
      → (part : Form) × (lowered_cut (not ((x + 255) % 256 == 0)) set ≡ Some part) × IsNormal 256 part × Has 256 part
      ((x + 255) % 256)
  pub lowered_form : (set part : Form) (taken : Bool) → IsNormal 256 set → lowered_cut taken set ≡ Some part
      → IsNormal 256 part
  pub place : (framed : Bool) (place : Compared) (known : Known) (set : Form) (s : ChipState) (first : Option ChipState)
      → IsCompared place → IsNormal 256 set → Has 256 set (compared_in place s) → IsUnder framed known s first
      → IsUnder framed (with_set place known set) s first
  pub place_form : (framed : Bool) (place : Compared) (known : Known) (set : Form) → IsCompared place → IsNormal 256 set
      → IsKnown framed known → IsKnown framed (with_set place known set)
  pub cut : (framed : Bool) (place : Compared) (window : Window) (known : Known) (s : ChipState) (first : Option ChipState)
      → IsCompared place → IsInside (compared_in place s) window → IsUnder framed known s first
      → (part : Known) × (place_cut place window known ≡ Some part) × IsUnder framed part s first
  pub cut_form : (framed : Bool) (place : Compared) (window : Window) (known part : Known) → IsCompared place
      → window.low < 256 → IsKnown framed known → place_cut place window known ≡ Some part → IsKnown framed part

-- The same of a jump by a bit: whatever the byte may be read as, where the chip finds its bit so the way isn't left out.
pub record BitsHold : Type 0 where
  pub way : (framed : Bool) (known : Known) (s : ChipState) (first : Option ChipState) (address : Address) (x place : ℕ)
      (bit : Bool)
      → IsUnder framed known s first → IsPlace address → MayRead s address x → place < 8 → bit_at x place ≡ bit_of bit
      → (way : Known) × (bit_tested address place bit known ≡ Some way) × IsUnder framed way s first
  pub form : (framed : Bool) (known way : Known) (address : Address) (place : ℕ) (bit : Bool) → IsKnown framed known
      → IsPlace address → place < 8 → bit_tested address place bit known ≡ Some way → IsKnown framed way

pub record BranchLaws : Type 0 where
  pub ways : JumpsHold
  pub bits : BitsHold
