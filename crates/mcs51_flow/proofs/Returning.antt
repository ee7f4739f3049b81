-- RETI that goes back to where the interrupt of its frame came.
use Rattle.std.proofs.Common.{◌≡◌, ℕ, Bool, true, Option, List, refl, sym, ap, ◌∙◌, subst}
use Rattle.call_context.specs.declared.node.Frame.{Frame}
use Rattle.choosing.specs.Asking.{value_is}
use Rattle.mcs51_decode.specs.declared.instr.Instr.{Instr}
use Rattle.mcs51_decode.specs.declared.instr.Instr.TheVariants as instr
use Rattle.mcs51_decode.specs.Targets.{following}
use Rattle.mcs51_chip.specs.declared.state.ChipState.{ChipState}
use Rattle.mcs51_chip.specs.Interrupts.{level_ended}
use Rattle.mcs51_chip.specs.Leading.{MayDo}
use Rattle.mcs51_chip.specs.Memory.{pop_reads}
use Rattle.mcs51_chip.specs.Step.{Effect, effect_of, going_to, returned}
use Rattle.mcs51_state.specs.Holding.{GoesOn, HoldsOf, StandsIn}
use Rattle.mcs51_state.specs.Known.{Known, is_interrupt}
use Rattle.mcs51_state.specs.Under.{IsUnder}
use Rattle.mcs51_control.specs.Returning.{goes_back, interrupt_returned, return_targets}
use Rattle.mcs51_state.specs.Doing.{LandsSo}
use Rattle.mcs51_flow.specs.declared.ran.Way.{Way}
use Rattle.mcs51_flow.specs.declared.ran.Way.TheVariants.{Lands, Goes}
use Rattle.mcs51_flow.specs.Doing.{IsWaySo, RunsSo}
use Rattle.mcs51_flow.specs.Running.{behind_of, items_of, ran_from, ran_of, targets_of}
use Rattle.mcs51_flow.specs.Going.{leaves_frame}
use Rattle.mcs51_flow.specs.LawsBelow.{Laws}

-- no other instruction leaves its frame
pub is_return : (instr_so : Instr) (frame : Frame) (a : Known) → leaves_frame frame a instr_so ≡ true → instr_so ≡ instr.ReturnFromInterrupt
is_return instr.Nop frame a h = absurd (cc)
is_return (instr.AbsoluteJump one) frame a h = absurd (cc)
is_return (instr.LongJump one) frame a h = absurd (cc)
is_return (instr.AbsoluteCall one) frame a h = absurd (cc)
is_return (instr.LongCall one) frame a h = absurd (cc)
is_return instr.Return frame a h = absurd (cc)
is_return instr.ReturnFromInterrupt frame a h = refl
is_return instr.JumpIndirect frame a h = absurd (cc)
is_return (instr.JumpOn one other) frame a h = absurd (cc)
is_return (instr.JumpOnBit one other more) frame a h = absurd (cc)
is_return (instr.CompareJump one other) frame a h = absurd (cc)
is_return (instr.DecrementJump one other) frame a h = absurd (cc)
is_return (instr.ChangeAccumulator one) frame a h = absurd (cc)
is_return (instr.Increment one) frame a h = absurd (cc)
is_return (instr.Decrement one) frame a h = absurd (cc)
is_return instr.IncrementDataPointer frame a h = absurd (cc)
is_return (instr.Accumulate one other) frame a h = absurd (cc)
is_return (instr.DirectLogic one other more) frame a h = absurd (cc)
is_return instr.Multiply frame a h = absurd (cc)
is_return instr.Divide frame a h = absurd (cc)
is_return (instr.ChangeCarry one) frame a h = absurd (cc)
is_return (instr.CarryBit one other) frame a h = absurd (cc)
is_return (instr.ChangeBit one other) frame a h = absurd (cc)
is_return (instr.MoveImmediate one other) frame a h = absurd (cc)
is_return (instr.MoveToDirect one other) frame a h = absurd (cc)
is_return (instr.MoveFromDirect one other) frame a h = absurd (cc)
is_return (instr.LoadDataPointer one) frame a h = absurd (cc)
is_return (instr.Load one) frame a h = absurd (cc)
is_return (instr.Store one) frame a h = absurd (cc)
is_return (instr.MoveCode one) frame a h = absurd (cc)
is_return (instr.ReadExternal one) frame a h = absurd (cc)
is_return (instr.WriteExternal one) frame a h = absurd (cc)
is_return (instr.Push one) frame a h = absurd (cc)
is_return (instr.Pop one) frame a h = absurd (cc)
is_return (instr.Exchange one) frame a h = absurd (cc)
is_return (instr.ExchangeDigit one) frame a h = absurd (cc)

-- it lands at the addresses of the stack
return_way : (image : List (Option ℕ)) (framed : Bool) (pc : ℕ) (a : Known)
    → (ran_of image framed pc a instr.ReturnFromInterrupt).way ≡ Lands (return_targets framed a) (interrupt_returned a)
unfolding ran_from items_of targets_of behind_of
return_way image framed pc a = refl

pub return_lands : (image : List (Option ℕ)) (frame : Frame) (pc : ℕ) (a : Known) (instr_so : Instr) (target : ℕ) (on jumped : Option Known)
    → instr_so ≡ instr.ReturnFromInterrupt
    → (ran_of image (is_interrupt frame) pc a instr_so).way ≡ Goes target on jumped → ⊥
return_lands image frame pc a instr_so target on jumped is goes =
    let same = sym (return_way image (is_interrupt frame) pc a) ∙ sym (ap (λ (i : Instr). (ran_of image (is_interrupt frame) pc a i).way) is) ∙ goes in absurd (cc)

-- what it leaves
return_effect : (image : List (Option ℕ)) (s : ChipState) (effect : Effect) → MayDo image s instr.ReturnFromInterrupt effect
    → effect.1 ≡ level_ended (returned (going_to (following s.pc instr.ReturnFromInterrupt) s))
unfolding effect_of
return_effect image s effect (choices, rest, does) =
    let next = going_to (following s.pc instr.ReturnFromInterrupt) s in
    let left : Effect = (pop_reads next, level_ended (returned next)) in
    ap (λ (e : Effect). e.1) (sym (value_is left effect choices rest does))

-- the state behind it goes on where the interrupt came
pub return_goes : Laws
    → (image : List (Option ℕ)) (frame : Frame) (a : Known) (s : ChipState) (first : Option ChipState) (instr_so : Instr) (effect : Effect)
    → instr_so ≡ instr.ReturnFromInterrupt
    → IsUnder (is_interrupt frame) a s first → StandsIn frame first → leaves_frame frame a instr_so ≡ true
    → MayDo image s instr_so effect → GoesOn frame effect.1 first
return_goes laws image frame a s first instr_so effect is under stands_so back may =
    let goes = subst (λ (i : Instr). leaves_frame frame a i ≡ true) is back in
    subst (λ t. GoesOn frame t first) (sym (return_effect image s effect (subst (λ (i : Instr). MayDo image s i effect) is may)))
    (laws.returns.back (is_interrupt frame) a s first frame under stands_so goes)
