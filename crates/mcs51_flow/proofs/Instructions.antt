-- What each instruction does.
use Rattle.std.proofs.Common.{ℕ, Bool, Option, List, [], sym, subst, arith}
use Rattle.std.specs.Prelude.{All}
use Rattle.call_context.specs.declared.shown.Item.{Item}
use Rattle.choosing.specs.Asking.{Asking}
use Rattle.choosing.specs.Gives.{Gives, answer_gives, weaken}
use Rattle.image.specs.Image.{IsByte as IsImageByte}
use Rattle.value_set.specs.Form.{Has}
use Rattle.value_set.specs.Summing.{single}
use Rattle.mcs51_decode.specs.declared.instr.Instr.{Instr}
use Rattle.mcs51_decode.specs.declared.instr.Instr.TheVariants.{Nop, AbsoluteJump, AbsoluteCall, LongJump, LongCall, Return, ReturnFromInterrupt, JumpIndirect, JumpOn, JumpOnBit, CompareJump, DecrementJump, ChangeAccumulator, Increment, Decrement, IncrementDataPointer, Accumulate, DirectLogic, Multiply, Divide, ChangeCarry, CarryBit, ChangeBit, MoveImmediate, MoveToDirect, MoveFromDirect, LoadDataPointer, Load, Store, MoveCode, ReadExternal, WriteExternal, Push, Pop, Exchange, ExchangeDigit}
use Rattle.mcs51_decode.specs.declared.instr.Place.TheVariants.{Accumulator, Memory as InMemory}
use Rattle.mcs51_decode.specs.Fitting.{IsInstr}
use Rattle.mcs51_decode.specs.Targets.{following}
use Rattle.mcs51_chip.specs.declared.state.ChipState.{ChipState}
use Rattle.mcs51_chip.specs.Step.{Effect, effect_of, going_to}
use Rattle.mcs51_state.specs.Known.{Known}
use Rattle.mcs51_state.specs.Under.{IsUnder}
use Rattle.mcs51_state.specs.Doing.{DoesSo, LandsSo}
use Rattle.mcs51_flow.specs.Doing.{RunsSo}
use Rattle.mcs51_flow.proofs.KindLaws.{KindLaws}
use Rattle.mcs51_flow.specs.Running.{behind_of, items_of, ran_from, ran_of, targets_of}

-- one that goes on behind itself lands there
onward : (laws : KindLaws) {framed : Bool} {first : Option ChipState} {items : List Item} {pc : ℕ} {a behind : Known} {s : ChipState} {asking : Asking Effect}
    → IsUnder framed a s first
    → Gives (DoesSo framed first items pc behind s) asking → Gives (LandsSo framed first items pc (single s.pc) behind) asking
onward laws {framed} {first} {items} {pc} {a} {behind} {s} {asking} under does =
    weaken (DoesSo framed first items pc behind s) (LandsSo framed first items pc (single s.pc) behind) asking
    (λ effect so. record { shown = so.shown; target = subst (Has 65536 (single s.pc)) (sym so.leads.onward) (laws.known.sets.single 65536 s.pc under.holds.state.pc).1; under = so.leads.under }) does

nop_lands : (laws : KindLaws) (framed : Bool) (a : Known) (s : ChipState) (first : Option ChipState) (image : List (Option ℕ)) (pc : ℕ)
    → IsUnder framed a s first
    → Gives (LandsSo framed first [] pc (single s.pc) a) (effect_of image s Nop)
unfolding effect_of
nop_lands laws framed a s first image pc under =
    answer_gives (LandsSo framed first [] pc (single s.pc) a) ([], s)
    (record { shown = λ access there. absurd (omega (arith, there.1)); target = (laws.known.sets.single 65536 s.pc under.holds.state.pc).1; under = under })

-- in the state s, PC is the following address
runs_from : (laws : KindLaws) (framed : Bool) (a : Known) (s : ChipState) (first : Option ChipState) (image : List (Option ℕ)) (pc : ℕ) (instr : Instr)
    → IsUnder framed a s first → IsInstr instr → All IsImageByte image
    → Gives (RunsSo framed first pc (ran_from image framed pc s.pc a instr) s) (effect_of image s instr)
unfolding ran_from items_of targets_of behind_of
runs_from laws framed a s first image pc Nop under is bytes = nop_lands laws framed a s first image pc under
runs_from laws framed a s first image pc (AbsoluteJump target) under is bytes = laws.transfers.absolute_jump framed a s first image pc target under
runs_from laws framed a s first image pc (AbsoluteCall target) under is bytes = laws.transfers.absolute_call framed a s first image pc target under
runs_from laws framed a s first image pc (LongJump target) under is bytes = laws.transfers.long_jump framed a s first image pc target under is
runs_from laws framed a s first image pc (LongCall target) under is bytes = laws.transfers.long_call framed a s first image pc target under is
runs_from laws framed a s first image pc Return under is bytes = laws.transfers.back framed a s first image pc under
runs_from laws framed a s first image pc ReturnFromInterrupt under is bytes = laws.transfers.back_from_interrupt framed a s first image pc under
runs_from laws framed a s first image pc JumpIndirect under is bytes = laws.transfers.indirect_jump framed a s first image pc under
runs_from laws framed a s first image pc (JumpOn condition rel) under is bytes = laws.jumps.on_condition framed a s first image pc condition rel under
runs_from laws framed a s first image pc (JumpOnBit test bit rel) under is bytes = laws.jumps.on_bit framed a s first image pc test bit rel under is.0
runs_from laws framed a s first image pc (CompareJump comparison rel) under is bytes = laws.jumps.by_comparison framed a s first image pc comparison rel under is.0
runs_from laws framed a s first image pc (DecrementJump counter rel) under is bytes = laws.jumps.by_counter framed a s first image pc counter rel under is.0
runs_from laws framed a s first image pc (ChangeAccumulator operation) under is bytes = onward laws under (laws.accumulators.change framed a s first image pc operation under)
runs_from laws framed a s first image pc (Increment Accumulator) under is bytes = onward laws under (laws.accumulators.increment framed a s first image pc under)
runs_from laws framed a s first image pc (Increment (InMemory m)) under is bytes = onward laws under (laws.moves.increment framed a s first image pc m under is)
runs_from laws framed a s first image pc (Decrement Accumulator) under is bytes = onward laws under (laws.accumulators.decrement framed a s first image pc under)
runs_from laws framed a s first image pc (Decrement (InMemory m)) under is bytes = onward laws under (laws.moves.decrement framed a s first image pc m under is)
runs_from laws framed a s first image pc IncrementDataPointer under is bytes = onward laws under (laws.memories.increment_data_pointer framed a s first image pc under)
runs_from laws framed a s first image pc (Accumulate operation origin) under is bytes = onward laws under (laws.accumulators.accumulate framed a s first image pc operation origin under is)
runs_from laws framed a s first image pc (DirectLogic operation direct mask) under is bytes = onward laws under (laws.moves.mask_direct framed a s first image pc operation direct mask under is.0 is.1)
runs_from laws framed a s first image pc Multiply under is bytes = onward laws under (laws.memories.multiply framed a s first image pc under)
runs_from laws framed a s first image pc Divide under is bytes = onward laws under (laws.memories.divide framed a s first image pc under)
runs_from laws framed a s first image pc (ChangeCarry operation) under is bytes = onward laws under (laws.bits.change_carry framed a s first image pc operation under)
runs_from laws framed a s first image pc (CarryBit operation bit) under is bytes = onward laws under (laws.bits.carry_bit framed a s first image pc operation bit under is)
runs_from laws framed a s first image pc (ChangeBit operation bit) under is bytes = onward laws under (laws.bits.change_bit framed a s first image pc operation bit under is)
runs_from laws framed a s first image pc (MoveImmediate Accumulator value) under is bytes = onward laws under (laws.accumulators.immediate framed a s first image pc value under is.1)
runs_from laws framed a s first image pc (MoveImmediate (InMemory m) value) under is bytes = onward laws under (laws.moves.immediate framed a s first image pc m value under is.0 is.1)
runs_from laws framed a s first image pc (MoveToDirect to from) under is bytes = onward laws under (laws.moves.to_direct framed a s first image pc to from under is.0 is.1)
runs_from laws framed a s first image pc (MoveFromDirect to from) under is bytes = onward laws under (laws.moves.from_direct framed a s first image pc to from under is)
runs_from laws framed a s first image pc (LoadDataPointer value) under is bytes = onward laws under (laws.memories.load_data_pointer framed a s first image pc value under is)
runs_from laws framed a s first image pc (Load m) under is bytes = onward laws under (laws.accumulators.load framed a s first image pc m under is)
runs_from laws framed a s first image pc (Store m) under is bytes = onward laws under (laws.moves.store framed a s first image pc m under is)
runs_from laws framed a s first image pc (MoveCode base) under is bytes = onward laws under (laws.memories.move_code framed a s first image pc base under bytes)
runs_from laws framed a s first image pc (ReadExternal external) under is bytes = onward laws under (laws.memories.read_external framed a s first image pc external under)
runs_from laws framed a s first image pc (WriteExternal external) under is bytes = onward laws under (laws.memories.write_external framed a s first image pc external under)
runs_from laws framed a s first image pc (Push direct) under is bytes = onward laws under (laws.memories.push framed a s first image pc direct under is)
runs_from laws framed a s first image pc (Pop direct) under is bytes = onward laws under (laws.memories.pop framed a s first image pc direct under is)
runs_from laws framed a s first image pc (Exchange m) under is bytes = onward laws under (laws.moves.exchange framed a s first image pc m under is)
runs_from laws framed a s first image pc (ExchangeDigit i) under is bytes = onward laws under (laws.moves.exchange_digit framed a s first image pc i under)

pub instruction_runs : (laws : KindLaws) (framed : Bool) (a : Known) (s : ChipState) (first : Option ChipState) (image : List (Option ℕ)) (pc : ℕ) (instr : Instr)
    → IsUnder framed a s first → IsInstr instr → All IsImageByte image
    → Gives (RunsSo framed first pc (ran_of image framed pc a instr) (going_to (following pc instr) s)) (effect_of image (going_to (following pc instr) s) instr)
instruction_runs laws framed a s first image pc instr under is bytes =
    runs_from laws framed a (going_to (following pc instr) s) first image pc instr (laws.stores.writes.counter framed first (following pc instr) (omega arith) a s under) is bytes
