-- What jumps, calls and returns do.
use Rattle.std.proofs.Common.{ℕ, ◌+◌, ◌%◌, ◌<◌, Bool, Option, List, [], sym, subst, arith}
use Rattle.call_context.specs.declared.shown.Item.{Item}
use Rattle.choosing.specs.Asking.{answer}
use Rattle.choosing.specs.Gives.{Gives, answer_gives}
use Rattle.value_set.specs.declared.form.Form.{Form}
use Rattle.value_set.specs.Form.{Has}
use Rattle.value_set.specs.Summing.{single}
use Rattle.mcs51_decode.specs.declared.instr.Instr.TheVariants.{AbsoluteCall, AbsoluteJump, JumpIndirect, LongCall, LongJump, Return, ReturnFromInterrupt}
use Rattle.mcs51_decode.specs.Targets.{absolute_target}
use Rattle.mcs51_chip.specs.declared.place.Access.{Access}
use Rattle.mcs51_chip.specs.declared.state.ChipState.{ChipState}
use Rattle.mcs51_chip.specs.Interrupts.{level_ended}
use Rattle.mcs51_chip.specs.Memory.{pop_reads, push_writes, with_pushed_address}
use Rattle.mcs51_chip.specs.NumberFacts.{absolute_below}
use Rattle.mcs51_chip.specs.Registers.{data_pointer}
use Rattle.mcs51_chip.specs.Step.{called, effect_of, going_to, returned}
use Rattle.mcs51_state.specs.Known.{Known}
use Rattle.mcs51_state.specs.Under.{IsUnder}
use Rattle.mcs51_state.specs.Operands.{jump_targets}
use Rattle.mcs51_state.specs.Showing.{AreShown}
use Rattle.mcs51_state.specs.Doing.{LandsSo}
use Rattle.mcs51_state.specs.Stack.{address_pushed}
use Rattle.mcs51_results.specs.InstructionLaws.{InstructionLaws}
use Rattle.mcs51_control.specs.Returning.{call_accesses, interrupt_returned, return_accesses, return_targets, returned_known}
use Rattle.mcs51_control.proofs.Levels.{ended_pc}
use Rattle.mcs51_control.proofs.Returns.{interrupt_so, returned_so, target_so}
use Rattle.mcs51_control.proofs.Showing.{call_shown, return_shown}

lands : (framed : Bool) (first : Option ChipState) (items : List Item) (pc : ℕ) (targets : Form) (behind : Known) (accesses : List Access) (t : ChipState)
    → AreShown items pc accesses → Has 65536 targets t.pc
    → IsUnder framed behind t first → Gives (LandsSo framed first items pc targets behind) (answer (accesses, t))
lands framed first items pc targets behind accesses t shown has under =
    answer_gives (LandsSo framed first items pc targets behind) (accesses, t) (record { shown = shown; target = has; under = under })

-- JUMPS

jumps : (laws : InstructionLaws) (framed : Bool) (a : Known) (s : ChipState) (first : Option ChipState) (pc target : ℕ) (targets : Form)
    → IsUnder framed a s first
    → target < 65536 → Has 65536 targets target
    → Gives (LandsSo framed first [] pc targets a) (answer ([], going_to target s))
jumps laws framed a s first pc target targets under small has =
    lands framed first [] pc targets a [] (going_to target s) (λ access there. absurd (omega (arith, there.1))) has (laws.stores.writes.counter framed first target small a s under)

pub absolute_jump_does : (laws : InstructionLaws) (framed : Bool) (a : Known) (s : ChipState) (first : Option ChipState) (image : List (Option ℕ)) (pc target : ℕ)
    → IsUnder framed a s first
    → Gives (LandsSo framed first [] pc (single (absolute_target s.pc target)) a) (effect_of image s (AbsoluteJump target))
unfolding effect_of
absolute_jump_does laws framed a s first image pc target under =
    let small = absolute_below s.pc target under.holds.state.pc in
    jumps laws framed a s first pc (absolute_target s.pc target) (single (absolute_target s.pc target)) under small (laws.known.sets.single 65536 (absolute_target s.pc target) small).1

pub long_jump_does : (laws : InstructionLaws) (framed : Bool) (a : Known) (s : ChipState) (first : Option ChipState) (image : List (Option ℕ)) (pc target : ℕ)
    → IsUnder framed a s first → target < 65536
    → Gives (LandsSo framed first [] pc (single target) a) (effect_of image s (LongJump target))
unfolding effect_of
long_jump_does laws framed a s first image pc target under small =
    jumps laws framed a s first pc target (single target) under small (laws.known.sets.single 65536 target small).1

pub indirect_jump_does : (laws : InstructionLaws) (framed : Bool) (a : Known) (s : ChipState) (first : Option ChipState) (image : List (Option ℕ)) (pc : ℕ)
    → IsUnder framed a s first
    → Gives (LandsSo framed first [] pc (jump_targets a) a) (effect_of image s JumpIndirect)
unfolding effect_of
indirect_jump_does laws framed a s first image pc under =
    jumps laws framed a s first pc ((s.a + data_pointer s) % 65536) (jump_targets a) under (omega arith) (laws.operands.jumps.has framed a s first under)

-- CALLS

calls : (laws : InstructionLaws) (framed : Bool) (a : Known) (s : ChipState) (first : Option ChipState) (pc target : ℕ)
    → IsUnder framed a s first → target < 65536
    → Gives (LandsSo framed first (call_accesses pc a) pc (single target) (address_pushed framed s.pc a)) (answer (push_writes s, called target s))
calls laws framed a s first pc target under small =
    let pushed_under = laws.stores.stack.push_address framed first s.pc under.holds.state.pc a s under in
    lands framed first (call_accesses pc a) pc (single target) (address_pushed framed s.pc a) (push_writes s) (called target s) (call_shown laws framed pc a s first under) (laws.known.sets.single 65536 target small).1
    (laws.stores.writes.counter framed first target small (address_pushed framed s.pc a) (with_pushed_address s.pc s) pushed_under)

pub absolute_call_does : (laws : InstructionLaws) (framed : Bool) (a : Known) (s : ChipState) (first : Option ChipState) (image : List (Option ℕ)) (pc target : ℕ)
    → IsUnder framed a s first
    → Gives (LandsSo framed first (call_accesses pc a) pc (single (absolute_target s.pc target)) (address_pushed framed s.pc a)) (effect_of image s (AbsoluteCall target))
unfolding effect_of
absolute_call_does laws framed a s first image pc target under = calls laws framed a s first pc (absolute_target s.pc target) under (absolute_below s.pc target under.holds.state.pc)

pub long_call_does : (laws : InstructionLaws) (framed : Bool) (a : Known) (s : ChipState) (first : Option ChipState) (image : List (Option ℕ)) (pc target : ℕ)
    → IsUnder framed a s first → target < 65536
    → Gives (LandsSo framed first (call_accesses pc a) pc (single target) (address_pushed framed s.pc a)) (effect_of image s (LongCall target))
unfolding effect_of
long_call_does laws framed a s first image pc target under small = calls laws framed a s first pc target under small

-- RETURNS

pub return_does : (laws : InstructionLaws) (framed : Bool) (a : Known) (s : ChipState) (first : Option ChipState) (image : List (Option ℕ)) (pc : ℕ)
    → IsUnder framed a s first
    → Gives (LandsSo framed first (return_accesses pc a) pc (return_targets framed a) (returned_known a)) (effect_of image s Return)
unfolding effect_of
return_does laws framed a s first image pc under =
    lands framed first (return_accesses pc a) pc (return_targets framed a) (returned_known a) (pop_reads s) (returned s) (return_shown laws framed pc a s first under) (target_so laws framed a s first under)
    (returned_so laws framed a s first under)

pub interrupt_return_does : (laws : InstructionLaws) (framed : Bool) (a : Known) (s : ChipState) (first : Option ChipState) (image : List (Option ℕ)) (pc : ℕ)
    → IsUnder framed a s first
    → Gives (LandsSo framed first (return_accesses pc a) pc (return_targets framed a) (interrupt_returned a)) (effect_of image s ReturnFromInterrupt)
unfolding effect_of
interrupt_return_does laws framed a s first image pc under =
    lands framed first (return_accesses pc a) pc (return_targets framed a) (interrupt_returned a) (pop_reads s) (level_ended (returned s)) (return_shown laws framed pc a s first under)
    (subst (Has 65536 (return_targets framed a)) (sym (ended_pc (returned s))) (target_so laws framed a s first under)) (interrupt_so laws framed a s first under)
