-- What an instruction of the chip does, by what an analysis says of it: its accesses are shown, it goes on at one of the
-- addresses, and the state behind it stands under what is known there. In the state s that an instruction works on, PC is
-- already the address behind the instruction; pc is the address of the instruction itself.
use Rattle.std.specs.Prelude.{◌≡◌, ℕ, Bool, Option, Some, List}
use Rattle.call_context.specs.declared.shown.Item.{Item}
use Rattle.value_set.specs.declared.form.Form.{Form}
use Rattle.value_set.specs.Form.{Has}
use Rattle.mcs51_chip.specs.declared.state.ChipState.{ChipState}
use Rattle.mcs51_chip.specs.Step.{Effect}
use Rattle.mcs51_state.specs.Known.{Known}
use Rattle.mcs51_state.specs.Under.{IsUnder}
use Rattle.mcs51_state.specs.Showing.{AreShown}

-- the state t goes on behind the instruction
pub record LeadsSo (framed : Bool) (first : Option ChipState) (behind : Known) (s t : ChipState) : Type 0 where
  pub onward : t.pc ≡ s.pc
  pub under : IsUnder framed behind t first

-- an instruction that goes on behind itself
pub record DoesSo (framed : Bool) (first : Option ChipState) (items : List Item) (pc : ℕ) (behind : Known) (s : ChipState) (effect : Effect) : Type 0 where
  pub shown : AreShown items pc effect.0
  pub leads : LeadsSo framed first behind s effect.1

-- a jump is taken, or the instruction behind it is next; what is known may leave out one of these ways
pub data Goes (framed : Bool) (first : Option ChipState) (target : ℕ) (on jumped : Option Known) (s t : ChipState) : Type 0 where
  GoesOn : (behind : Known) → on ≡ Some behind → LeadsSo framed first behind s t → Goes framed first target on jumped s t
  Jumps : (behind : Known) → jumped ≡ Some behind → t.pc ≡ target → IsUnder framed behind t first → Goes framed first target on jumped s t

pub record GoesSo (framed : Bool) (first : Option ChipState) (items : List Item) (pc target : ℕ) (on jumped : Option Known) (s : ChipState) (effect : Effect) : Type 0 where
  pub shown : AreShown items pc effect.0
  pub goes : Goes framed first target on jumped s effect.1

-- an instruction that goes on at one of some addresses
pub record LandsSo (framed : Bool) (first : Option ChipState) (items : List Item) (pc : ℕ) (targets : Form) (behind : Known) (effect : Effect) : Type 0 where
  pub shown : AreShown items pc effect.0
  pub target : Has 65536 targets effect.1.pc
  pub under : IsUnder framed behind effect.1 first
