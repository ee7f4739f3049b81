-- What is said of each instruction is in form.
use Rattle.std.proofs.Common.{◌≡◌, ℕ, ◌<◌, Bool, true, false, Option, None, Some, List, refl, arith}
use Rattle.std.specs.Prelude.{All, IfSome}
use Rattle.image.specs.Image.{IsByte as IsImageByte}
use Rattle.mcs51_decode.specs.declared.instr.Instr.{Instr}
use Rattle.mcs51_decode.specs.declared.instr.Instr.TheVariants.{Nop, AbsoluteJump, AbsoluteCall, LongJump, LongCall, Return, ReturnFromInterrupt, JumpIndirect, JumpOn, JumpOnBit, CompareJump, DecrementJump, ChangeAccumulator, Increment, Decrement, IncrementDataPointer, Accumulate, DirectLogic, Multiply, Divide, ChangeCarry, CarryBit, ChangeBit, MoveImmediate, MoveToDirect, MoveFromDirect, LoadDataPointer, Load, Store, MoveCode, ReadExternal, WriteExternal, Push, Pop, Exchange, ExchangeDigit}
use Rattle.mcs51_decode.specs.declared.instr.Place.TheVariants.{Accumulator, Memory as InMemory}
use Rattle.mcs51_decode.specs.Fitting.{IsInstr}
use Rattle.mcs51_decode.specs.Targets.{absolute_target, following, relative_target}
use Rattle.mcs51_chip.specs.NumberFacts.{absolute_below, target_below}
use Rattle.mcs51_state.specs.Forms.{IsKnown}
use Rattle.mcs51_state.specs.Known.{Known}
use Rattle.mcs51_jumps.specs.Jumps.{AreWays, Ways, ways_by_comparison, ways_by_counter, ways_on_bit, ways_on_condition}
use Rattle.mcs51_flow.specs.declared.ran.Way.TheVariants.{Goes}
use Rattle.mcs51_flow.specs.Doing.{IsWay}
use Rattle.mcs51_flow.proofs.KindLaws.{KindLaws}
use Rattle.mcs51_flow.specs.Running.{behind_of, items_of, ran_from, ran_of, targets_of}

some_form : (framed : Bool) (way : Option Known) → ((a : Known) → way ≡ Some a → IsKnown framed a) → IfSome way (IsKnown framed)
some_form framed None each = tt
some_form framed (Some a) each = each a refl

both_ways : (framed : Bool) (next rel : ℕ) (ways : Ways) → AreWays framed ways
    → IsWay framed (Goes (relative_target next rel) ways.on ways.jumped)
both_ways framed next rel ways are = (target_below next rel, some_form framed ways.on are.on, some_form framed ways.jumped are.jumped)

way_form : (laws : KindLaws) (framed : Bool) (a : Known) (image : List (Option ℕ)) (pc next : ℕ) (instr : Instr)
    → next < 65536 → IsKnown framed a
    → IsInstr instr → All IsImageByte image
    → IsWay framed (ran_from image framed pc next a instr).way
unfolding ran_from items_of targets_of behind_of
way_form laws framed a image pc next Nop small form is bytes = ((laws.known.sets.single 65536 next small).0, form)
way_form laws framed a image pc next (AbsoluteJump target) small form is bytes = ((laws.known.sets.single 65536 (absolute_target next target) (absolute_below next target small)).0, form)
way_form laws framed a image pc next (AbsoluteCall target) small form is bytes = ((laws.known.sets.single 65536 (absolute_target next target) (absolute_below next target small)).0, laws.stores.forms.push_address framed next small a form)
way_form laws framed a image pc next (LongJump target) small form is bytes = ((laws.known.sets.single 65536 target is).0, form)
way_form laws framed a image pc next (LongCall target) small form is bytes = ((laws.known.sets.single 65536 target is).0, laws.stores.forms.push_address framed next small a form)
way_form laws framed a image pc next Return small form is bytes = (laws.returns.targets framed a form, laws.returns.form framed a form)
way_form laws framed a image pc next ReturnFromInterrupt small form is bytes = (laws.returns.targets framed a form, laws.returns.interrupt_form framed a form)
way_form laws framed a image pc next JumpIndirect small form is bytes = (laws.operands.jumps.normal framed a form, form)
way_form laws framed a image pc next (JumpOn condition rel) small form is bytes = both_ways framed next rel (ways_on_condition condition a) (laws.jump_forms.on_condition framed a condition form)
way_form laws framed a image pc next (JumpOnBit test bit rel) small form is bytes = both_ways framed next rel (ways_on_bit framed test bit a) (laws.jump_forms.on_bit framed a test bit form is.0)
way_form laws framed a image pc next (CompareJump comparison rel) small form is bytes = both_ways framed next rel (ways_by_comparison framed comparison a) (laws.jump_forms.by_comparison framed a comparison form is.0)
way_form laws framed a image pc next (DecrementJump counter rel) small form is bytes = both_ways framed next rel (ways_by_counter framed counter a) (laws.jump_forms.by_counter framed a counter form is.0)
way_form laws framed a image pc next (ChangeAccumulator operation) small form is bytes = ((laws.known.sets.single 65536 next small).0, laws.accumulator_forms.change_form framed a operation form)
way_form laws framed a image pc next (Increment Accumulator) small form is bytes = ((laws.known.sets.single 65536 next small).0, laws.accumulator_forms.count_form framed a true form)
way_form laws framed a image pc next (Increment (InMemory m)) small form is bytes = ((laws.known.sets.single 65536 next small).0, laws.move_forms.increment framed a m form is)
way_form laws framed a image pc next (Decrement Accumulator) small form is bytes = ((laws.known.sets.single 65536 next small).0, laws.accumulator_forms.count_form framed a false form)
way_form laws framed a image pc next (Decrement (InMemory m)) small form is bytes = ((laws.known.sets.single 65536 next small).0, laws.move_forms.decrement framed a m form is)
way_form laws framed a image pc next IncrementDataPointer small form is bytes = ((laws.known.sets.single 65536 next small).0, laws.memory_forms.increment_data_pointer framed a form)
way_form laws framed a image pc next (Accumulate operation origin) small form is bytes = ((laws.known.sets.single 65536 next small).0, laws.accumulator_forms.accumulate_form framed a operation origin form is)
way_form laws framed a image pc next (DirectLogic operation direct mask) small form is bytes = ((laws.known.sets.single 65536 next small).0, laws.move_forms.mask_direct framed a operation direct mask form is.0 is.1)
way_form laws framed a image pc next Multiply small form is bytes = ((laws.known.sets.single 65536 next small).0, laws.memory_forms.multiply framed a form)
way_form laws framed a image pc next Divide small form is bytes = ((laws.known.sets.single 65536 next small).0, laws.memory_forms.divide framed a form)
way_form laws framed a image pc next (ChangeCarry operation) small form is bytes = ((laws.known.sets.single 65536 next small).0, laws.bit_forms.change_carry framed a operation form)
way_form laws framed a image pc next (CarryBit operation bit) small form is bytes = ((laws.known.sets.single 65536 next small).0, laws.bit_forms.carry_bit framed a operation bit form)
way_form laws framed a image pc next (ChangeBit operation bit) small form is bytes = ((laws.known.sets.single 65536 next small).0, laws.bit_forms.change_bit framed a operation bit form is)
way_form laws framed a image pc next (MoveImmediate Accumulator value) small form is bytes = ((laws.known.sets.single 65536 next small).0, laws.accumulator_forms.immediate_form framed a value form is.1)
way_form laws framed a image pc next (MoveImmediate (InMemory m) value) small form is bytes = ((laws.known.sets.single 65536 next small).0, laws.move_forms.immediate framed a m value form is.0 is.1)
way_form laws framed a image pc next (MoveToDirect to from) small form is bytes = ((laws.known.sets.single 65536 next small).0, laws.move_forms.to_direct framed a to from form is.0 is.1)
way_form laws framed a image pc next (MoveFromDirect to from) small form is bytes = ((laws.known.sets.single 65536 next small).0, laws.move_forms.from_direct framed a to from form is)
way_form laws framed a image pc next (LoadDataPointer value) small form is bytes = ((laws.known.sets.single 65536 next small).0, laws.memory_forms.load_data_pointer framed a value form is)
way_form laws framed a image pc next (Load m) small form is bytes = ((laws.known.sets.single 65536 next small).0, laws.accumulator_forms.load_form framed a m form is)
way_form laws framed a image pc next (Store m) small form is bytes = ((laws.known.sets.single 65536 next small).0, laws.move_forms.store framed a m form is)
way_form laws framed a image pc next (MoveCode base) small form is bytes = ((laws.known.sets.single 65536 next small).0, laws.memory_forms.move_code framed a image base next form bytes)
way_form laws framed a image pc next (ReadExternal external) small form is bytes = ((laws.known.sets.single 65536 next small).0, laws.memory_forms.read_external framed a form)
way_form laws framed a image pc next (WriteExternal external) small form is bytes = ((laws.known.sets.single 65536 next small).0, form)
way_form laws framed a image pc next (Push direct) small form is bytes = ((laws.known.sets.single 65536 next small).0, laws.memory_forms.push framed a direct form is)
way_form laws framed a image pc next (Pop direct) small form is bytes = ((laws.known.sets.single 65536 next small).0, laws.memory_forms.pop framed a direct form is)
way_form laws framed a image pc next (Exchange m) small form is bytes = ((laws.known.sets.single 65536 next small).0, laws.move_forms.exchange framed a m form is)
way_form laws framed a image pc next (ExchangeDigit i) small form is bytes = ((laws.known.sets.single 65536 next small).0, laws.move_forms.exchange_digit framed a i form)

pub instruction_form : (laws : KindLaws) (framed : Bool) (a : Known) (image : List (Option ℕ)) (pc : ℕ) (instr : Instr)
    → IsKnown framed a → IsInstr instr → All IsImageByte image
    → IsWay framed (ran_of image framed pc a instr).way
instruction_form laws framed a image pc instr form is bytes = way_form laws framed a image pc (following pc instr) instr (omega arith) form is bytes
