-- What holds of calls, returns and jumps.
use Rattle.std.specs.Prelude.{◌≡◌, ◌<◌, ℕ, Bool, true, List, [], Option}
use Rattle.call_context.specs.declared.node.Frame.{Frame}
use Rattle.call_context.specs.Nodes.{HasEntry}
use Rattle.choosing.specs.Gives.{Gives}
use Rattle.value_set.specs.Form.{Has, IsNormal}
use Rattle.value_set.specs.Summing.{single}
use Rattle.mcs51_decode.specs.declared.instr.Instr.TheVariants.{AbsoluteCall, AbsoluteJump, JumpIndirect, LongCall, LongJump, Return, ReturnFromInterrupt}
use Rattle.mcs51_decode.specs.Targets.{absolute_target}
use Rattle.mcs51_chip.specs.declared.state.ChipState.{ChipState}
use Rattle.mcs51_chip.specs.Interrupts.{level_ended}
use Rattle.mcs51_chip.specs.Memory.{pop_reads}
use Rattle.mcs51_chip.specs.Step as chip
use Rattle.mcs51_chip.specs.Step.{effect_of}
use Rattle.mcs51_state.specs.Forms.{IsKnown}
use Rattle.mcs51_state.specs.Holding.{GoesOn, StandsIn}
use Rattle.mcs51_state.specs.Known.{Known, is_interrupt}
use Rattle.mcs51_state.specs.Under.{IsUnder}
use Rattle.mcs51_state.specs.Operands.{jump_targets}
use Rattle.mcs51_state.specs.Showing.{AreShown}
use Rattle.mcs51_state.specs.Doing.{LandsSo}
use Rattle.mcs51_state.specs.Stack.{address_pushed}
use Rattle.mcs51_control.specs.Returning.{call_accesses, goes_back, interrupt_returned, return_accesses, return_targets, returned_known}

-- The state that RET, or RETI, leaves stands under what is said, at one of the targets, and its reads are shown. Where RETI
-- goes back, it is in the frame of an interrupt that came at a known stack pointer, and goes on where that came. What is
-- said is in form.
pub record ReturnLaws : Type 0 where
  pub returned : (framed : Bool) (a : Known) (s : ChipState) (first : Option ChipState) → IsUnder framed a s first
      → IsUnder framed (returned_known a) (chip.returned s) first
  pub interrupt : (framed : Bool) (a : Known) (s : ChipState) (first : Option ChipState) → IsUnder framed a s first
      → IsUnder framed (interrupt_returned a) (level_ended (chip.returned s)) first
  pub target : (framed : Bool) (a : Known) (s : ChipState) (first : Option ChipState) → IsUnder framed a s first
      → Has 65536 (return_targets framed a) (chip.returned s).pc
  pub targets : (framed : Bool) (a : Known) → IsKnown framed a → IsNormal 65536 (return_targets framed a)
  pub form : (framed : Bool) (a : Known) → IsKnown framed a → IsKnown framed (returned_known a)
  pub interrupt_form : (framed : Bool) (a : Known) → IsKnown framed a → IsKnown framed (interrupt_returned a)
  pub shown : (framed : Bool) (pc : ℕ) (a : Known) (s : ChipState) (first : Option ChipState) → IsUnder framed a s first
      → AreShown (return_accesses pc a) pc (pop_reads s)
  pub back : (framed : Bool) (a : Known) (s : ChipState) (first : Option ChipState) (frame : Frame)
      → IsUnder framed a s first → StandsIn frame first → goes_back framed frame a ≡ true
      → GoesOn frame (level_ended (chip.returned s)) first
  pub base : (framed : Bool) (frame : Frame) (a : Known) → goes_back framed frame a ≡ true
      → (is_interrupt frame ≡ true) × HasEntry frame

-- A jump that is always taken, a call and a return do what is said of them: each shows its accesses and goes on at one of its
-- targets, in a state that stands under what is said.
pub record TransfersDo : Type 0 where
  pub absolute_jump : (framed : Bool) (a : Known) (s : ChipState) (first : Option ChipState) (image : List (Option ℕ))
      (pc target : ℕ)
      → IsUnder framed a s first
      → Gives (LandsSo framed first [] pc (single (absolute_target s.pc target)) a)
      (effect_of image s (AbsoluteJump target))
  pub long_jump : (framed : Bool) (a : Known) (s : ChipState) (first : Option ChipState) (image : List (Option ℕ))
      (pc target : ℕ)
      → IsUnder framed a s first → target < 65536
      → Gives (LandsSo framed first [] pc (single target) a) (effect_of image s (LongJump target))
  pub indirect_jump : (framed : Bool) (a : Known) (s : ChipState) (first : Option ChipState) (image : List (Option ℕ))
      (pc : ℕ)
      → IsUnder framed a s first
      → Gives (LandsSo framed first [] pc (jump_targets a) a) (effect_of image s JumpIndirect)
  pub absolute_call : (framed : Bool) (a : Known) (s : ChipState) (first : Option ChipState) (image : List (Option ℕ))
      (pc target : ℕ)
      → IsUnder framed a s first
      → Gives (LandsSo framed first (call_accesses pc a) pc (single (absolute_target s.pc target)) (address_pushed framed s.pc a))
      (effect_of image s (AbsoluteCall target))
  pub long_call : (framed : Bool) (a : Known) (s : ChipState) (first : Option ChipState) (image : List (Option ℕ))
      (pc target : ℕ)
      → IsUnder framed a s first → target < 65536
      → Gives (LandsSo framed first (call_accesses pc a) pc (single target) (address_pushed framed s.pc a))
      (effect_of image s (LongCall target))
  pub back : (framed : Bool) (a : Known) (s : ChipState) (first : Option ChipState) (image : List (Option ℕ)) (pc : ℕ)
      → IsUnder framed a s first
      → Gives (LandsSo framed first (return_accesses pc a) pc (return_targets framed a) (returned_known a))
      (effect_of image s Return)
  pub back_from_interrupt : (framed : Bool) (a : Known) (s : ChipState) (first : Option ChipState)
      (image : List (Option ℕ)) (pc : ℕ)
      → IsUnder framed a s first
      → Gives (LandsSo framed first (return_accesses pc a) pc (return_targets framed a) (interrupt_returned a))
      (effect_of image s ReturnFromInterrupt)
