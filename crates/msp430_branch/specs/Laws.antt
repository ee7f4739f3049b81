-- What holds of facts and of cuts. Proofs above take these laws from records.
use Rattle.msp430_branch.specs.Conditions.{bit_of}
use Rattle.msp430_branch.specs.Cuts.{known_cut, with_set}
use Rattle.msp430_branch.specs.Facts.{fact_behind}
use Rattle.msp430_chip.specs.Leading.{MayDouble}
use Rattle.msp430_chip.specs.Outcome.{Outcome}
use Rattle.msp430_chip.specs.State.{IsChipState, register_of}
use Rattle.msp430_chip.specs.Step.{is_taken}
use Rattle.msp430_chip.specs.declared.device.Device.{Device}
use Rattle.msp430_chip.specs.declared.state.ChipState.{ChipState}
use Rattle.msp430_decode.specs.declared.instr.Condition.{Condition}
use Rattle.msp430_decode.specs.declared.instr.Destination.{Destination}
use Rattle.msp430_decode.specs.declared.instr.Operation.{Operation}
use Rattle.msp430_decode.specs.declared.instr.Source.{Source}
use Rattle.msp430_decode.specs.declared.instr.Width.{Width}
use Rattle.msp430_state.specs.Forms.{IsFact, IsKnown}
use Rattle.msp430_state.specs.Holding.{HoldsOf, HoldsOfFact, HoldsOfParts}
use Rattle.msp430_state.specs.Known.{Known}
use Rattle.std.specs.Prelude.{Bool, List, Option, Some, slice_index, ℕ, ◌<◌, ◌≡◌}
use Rattle.value_set.specs.Form.{Has, IsNormal}
use Rattle.value_set.specs.declared.form.Form.{Form}

-- Where a jump is taken, or isn't, by the flags of a state that stands under what is known, that outcome is known, and the state
-- stands under what is known there. So do registers and RAM alone. What is known on an outcome is in form, and says the same of
-- interrupts. Of one of R4 to R15 any set may be known that has its number.
pub record CutsHold : Type 0 where
  pub parts : (device : Device) (lo hi : ℕ) (framed : Bool) (a : Known) (first : Option ChipState)
      (registers ram : List ℕ) (condition : Condition)
      → IsKnown lo hi framed a → HoldsOfParts device a first registers ram
      → (b : Known) × (known_cut condition (is_taken condition (slice_index registers 2)) a ≡ Some b) × HoldsOfParts
      device b first registers ram
  pub state : (device : Device) (lo hi : ℕ) (framed : Bool) (a : Known) (s : ChipState) (first : Option ChipState)
      (condition : Condition)
      → IsKnown lo hi framed a → HoldsOf device a s first
      → (b : Known) × (known_cut condition (is_taken condition (register_of s 2)) a ≡ Some b) × HoldsOf device b s
      first
  pub form : (lo hi : ℕ) (framed : Bool) (a b : Known) (condition : Condition) (taken : Bool) → IsKnown lo hi framed a
      → known_cut condition taken a ≡ Some b → IsKnown lo hi framed b
  pub interrupts : (a b : Known) (condition : Condition) (taken : Bool) → known_cut condition taken a ≡ Some b
      → (bit_of b.status.bits 3 ≡ bit_of a.status.bits 3) × (b.late ≡ a.late)
  pub set : (device : Device) (lo hi : ℕ) (framed : Bool) (a : Known) (s : ChipState) (first : Option ChipState)
      (register : ℕ) (set : Form)
      → IsKnown lo hi framed a → 3 < register → register < 16 → Has 65536 set (register_of s register)
      → HoldsOf device a s first → HoldsOf device (with_set a register set) s first
  pub set_form : (lo hi : ℕ) (framed : Bool) (a : Known) (register : ℕ) (set : Form) → IsKnown lo hi framed a
      → 3 < register → register < 16 → IsNormal 65536 set → IsKnown lo hi framed (with_set a register set)

-- Behind each step of an instruction with two operands, where the registers and RAM that it leaves stand under what is known, its
-- fact holds of the registers. A fact is in form.
pub record FactsHold : Type 0 where
  pub holds : (device : Device) (a : Known) (s : ChipState) (first : Option ChipState) (len : ℕ) (done : Operation)
      (width : Width) (origin : Source) (target : Destination) (outcome : Outcome ChipState)
      → IsChipState device s → (may : MayDouble device s len done width origin target outcome)
      → HoldsOfParts device a first may.left.registers may.left.ram
      → HoldsOfFact (fact_behind done width origin target a) may.left.registers
  pub form : (done : Operation) (width : Width) (origin : Source) (target : Destination) (a : Known) → IsFact a.fact
      → IsFact (fact_behind done width origin target a)
