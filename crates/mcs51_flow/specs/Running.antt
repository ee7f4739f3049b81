-- What each instruction of the MCS-51 makes of what is known of a state (Intel, MCS-51 Programmer's Guide and Instruction Set,
-- "Instruction Definitions"): what it shows, where it goes on, and what is known there.
use Rattle.std.specs.Prelude.{ℕ, Bool, true, false, Option, List, []}
use Rattle.call_context.specs.declared.shown.Item.{Item}
use Rattle.value_set.specs.declared.form.Form.{Form}
use Rattle.value_set.specs.Summing.{single}
use Rattle.mcs51_decode.specs.declared.instr.BitTest.{BitTest}
use Rattle.mcs51_decode.specs.declared.instr.Comparison.{Comparison}
use Rattle.mcs51_decode.specs.declared.instr.Condition.{Condition}
use Rattle.mcs51_decode.specs.declared.instr.Counter.{Counter}
use Rattle.mcs51_decode.specs.declared.instr.Instr.{Instr}
use Rattle.mcs51_decode.specs.declared.instr.Instr.TheVariants.{AbsoluteJump, AbsoluteCall, LongJump, LongCall, Return, ReturnFromInterrupt, JumpIndirect, JumpOn, JumpOnBit, CompareJump, DecrementJump, ChangeAccumulator, Increment, Decrement, IncrementDataPointer, Accumulate, DirectLogic, Multiply, Divide, ChangeCarry, CarryBit, ChangeBit, MoveImmediate, MoveToDirect, MoveFromDirect, LoadDataPointer, Load, Store, MoveCode, ReadExternal, WriteExternal, Push, Pop, Exchange, ExchangeDigit}
use Rattle.mcs51_decode.specs.declared.instr.Place.TheVariants.{Accumulator, Memory as InMemory}
use Rattle.mcs51_decode.specs.Targets.{absolute_target, following, relative_target}
use Rattle.mcs51_state.specs.Known.{Known}
use Rattle.mcs51_state.specs.Operands.{bit_addresses, direct_addresses, jump_targets}
use Rattle.mcs51_state.specs.Stack.{address_pushed}
use Rattle.mcs51_state.specs.Accesses.{read_at, read_items, update_at, update_items, write_items}
use Rattle.mcs51_alu.specs.Accumulator.{accumulated_known, changed_known, counted, immediate, loaded, source_items}
use Rattle.mcs51_moves.specs.Moves.{decremented, digit_exchanged, direct_masked, exchanged, from_direct_items, immediate_moved, incremented, moved_from_direct, moved_to_direct, pointed, stored, to_direct_items}
use Rattle.mcs51_jumps.specs.Bits.{bit_changed, carry_changed, carry_joined}
use Rattle.mcs51_memories.specs.Codes.{code_items, code_loaded}
use Rattle.mcs51_memories.specs.Externals.{external_items, external_loaded}
use Rattle.mcs51_memories.specs.Pairs.{divided_known, multiplied_known, pointer_loaded, pointer_raised}
use Rattle.mcs51_memories.specs.Stacking.{pop_items, popped_known, push_items, pushed_known}
use Rattle.mcs51_control.specs.Returning.{call_accesses, interrupt_returned, return_accesses, return_targets, returned_known}
use Rattle.mcs51_jumps.specs.Jumps.{Ways, bit_items, comparison_items, counter_items, ways_by_comparison, ways_by_counter, ways_on_bit, ways_on_condition}
use Rattle.mcs51_flow.specs.declared.ran.Way.{Way}
use Rattle.mcs51_flow.specs.declared.ran.Way.TheVariants.{Lands, Goes}

-- what an instruction shows, and where it goes on
pub record Ran : Type 0 where
  pub items : List Item
  pub way : Way Known

-- WHAT IT SHOWS, conditional jumps apart

unfoldable pub items_of : (pc next : ℕ) → Known → Instr → List Item
items_of pc next a (AbsoluteCall target) = call_accesses pc a
items_of pc next a (LongCall target) = call_accesses pc a
items_of pc next a Return = return_accesses pc a
items_of pc next a ReturnFromInterrupt = return_accesses pc a
items_of pc next a (Increment (InMemory m)) = update_items pc a m
items_of pc next a (Decrement (InMemory m)) = update_items pc a m
items_of pc next a (Accumulate operation origin) = source_items pc a origin
items_of pc next a (DirectLogic operation direct mask) = update_at pc (direct_addresses direct)
items_of pc next a (CarryBit operation bit) = read_at pc (bit_addresses bit)
items_of pc next a (ChangeBit operation bit) = update_at pc (bit_addresses bit)
items_of pc next a (MoveImmediate (InMemory m) value) = write_items pc a m
items_of pc next a (MoveToDirect to from) = to_direct_items pc a to from
items_of pc next a (MoveFromDirect to from) = from_direct_items pc a to from
items_of pc next a (Load m) = read_items pc a m
items_of pc next a (MoveCode base) = code_items pc base next a
items_of pc next a (ReadExternal external) = external_items pc false external a
items_of pc next a (WriteExternal external) = external_items pc true external a
items_of pc next a (Push direct) = push_items pc direct a
items_of pc next a (Pop direct) = pop_items pc direct a
items_of pc next a (Store m) = write_items pc a m
items_of pc next a (Exchange m) = update_items pc a m
items_of pc next a (ExchangeDigit i) = update_items pc a (pointed i)
items_of pc next a other = []

-- WHERE IT GOES ON, by the following address: a jump, a call or a return at its targets, and all else there

unfoldable pub targets_of : (framed : Bool) → (next : ℕ) → Known → Instr → Form
targets_of framed next a (AbsoluteJump target) = single (absolute_target next target)
targets_of framed next a (AbsoluteCall target) = single (absolute_target next target)
targets_of framed next a (LongJump target) = single target
targets_of framed next a (LongCall target) = single target
targets_of framed next a JumpIndirect = jump_targets a
targets_of framed next a Return = return_targets framed a
targets_of framed next a ReturnFromInterrupt = return_targets framed a
targets_of framed next a other = single next

-- WHAT IS KNOWN THERE; what changes PC alone leaves all as it was, and so does MOVX to memory, which is held nowhere

unfoldable pub behind_of : List (Option ℕ) → (framed : Bool) → (next : ℕ) → Known → Instr → Known
behind_of image framed next a (AbsoluteCall target) = address_pushed framed next a
behind_of image framed next a (LongCall target) = address_pushed framed next a
behind_of image framed next a Return = returned_known a
behind_of image framed next a ReturnFromInterrupt = interrupt_returned a
behind_of image framed next a (ChangeAccumulator operation) = changed_known operation a
behind_of image framed next a (Increment Accumulator) = counted true a
behind_of image framed next a (Increment (InMemory m)) = incremented framed m a
behind_of image framed next a (Decrement Accumulator) = counted false a
behind_of image framed next a (Decrement (InMemory m)) = decremented framed m a
behind_of image framed next a (Accumulate operation origin) = accumulated_known framed operation origin a
behind_of image framed next a IncrementDataPointer = pointer_raised a
behind_of image framed next a (DirectLogic operation direct mask) = direct_masked framed operation direct mask a
behind_of image framed next a Multiply = multiplied_known a
behind_of image framed next a Divide = divided_known a
behind_of image framed next a (ChangeCarry operation) = carry_changed operation a
behind_of image framed next a (CarryBit operation bit) = carry_joined operation bit a
behind_of image framed next a (ChangeBit operation bit) = bit_changed framed operation bit a
behind_of image framed next a (MoveImmediate Accumulator value) = immediate value a
behind_of image framed next a (MoveImmediate (InMemory m) value) = immediate_moved framed m value a
behind_of image framed next a (MoveToDirect to from) = moved_to_direct framed to from a
behind_of image framed next a (MoveFromDirect to from) = moved_from_direct framed to from a
behind_of image framed next a (LoadDataPointer value) = pointer_loaded value a
behind_of image framed next a (Load m) = loaded framed m a
behind_of image framed next a (Store m) = stored framed m a
behind_of image framed next a (MoveCode base) = code_loaded image base next a
behind_of image framed next a (ReadExternal external) = external_loaded a
behind_of image framed next a (Push direct) = pushed_known framed direct a
behind_of image framed next a (Pop direct) = popped_known framed direct a
behind_of image framed next a (Exchange m) = exchanged framed m a
behind_of image framed next a (ExchangeDigit i) = digit_exchanged framed i a
behind_of image framed next a other = a

-- ALL OF IT

-- a conditional jump is taken, or the instruction behind it is next
abbrev pub forked : (target : ℕ) → List Item → Ways → Ran
forked target items ways = record { items = items; way = Goes target ways.on ways.jumped }

abbrev pub jumping_on : (target : ℕ) → Condition → Known → Ran
jumping_on target condition a = forked target [] (ways_on_condition condition a)

abbrev pub jumping_on_bit : (framed : Bool) → (pc target : ℕ) → BitTest → (bit : ℕ) → Known → Ran
jumping_on_bit framed pc target test bit a = let ways = ways_on_bit framed test bit a in forked target (bit_items pc test bit ways.jumped) ways

abbrev pub comparing : (framed : Bool) → (pc target : ℕ) → Comparison → Known → Ran
comparing framed pc target comparison a = forked target (comparison_items pc comparison a) (ways_by_comparison framed comparison a)

abbrev pub lowering : (framed : Bool) → (pc target : ℕ) → Counter → Known → Ran
lowering framed pc target counter a = forked target (counter_items pc counter a) (ways_by_counter framed counter a)

abbrev pub landed : List (Option ℕ) → (framed : Bool) → (pc next : ℕ) → Known → Instr → Ran
landed image framed pc next a instr = record { items = items_of pc next a instr; way = Lands (targets_of framed next a instr) (behind_of image framed next a instr) }

-- by the following address
unfoldable pub ran_from : List (Option ℕ) → (framed : Bool) → (pc next : ℕ) → Known → Instr → Ran
ran_from image framed pc next a (JumpOn condition rel) = jumping_on (relative_target next rel) condition a
ran_from image framed pc next a (JumpOnBit test bit rel) = jumping_on_bit framed pc (relative_target next rel) test bit a
ran_from image framed pc next a (CompareJump comparison rel) = comparing framed pc (relative_target next rel) comparison a
ran_from image framed pc next a (DecrementJump counter rel) = lowering framed pc (relative_target next rel) counter a
ran_from image framed pc next a other = landed image framed pc next a other

abbrev pub ran_of : List (Option ℕ) → (framed : Bool) → (pc : ℕ) → Known → Instr → Ran
ran_of image framed pc a instr = ran_from image framed pc (following pc instr) a instr
