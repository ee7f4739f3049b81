-- A step needs at most three choices, whatever it does.
use Rattle.std.proofs.Common.{ℕ, ◌+◌, ◌%◌, ◌<◌, ◌≤◌, ◌==◌, Bool, nat_lt, List, length, Option, None, Some, Result, Ok, Err, arith}
use Rattle.std.specs.List.{filter, range_with_len}
use Rattle.std.proofs.lemmas.List.Sums.{length-filter, count_by-le-length}
use Rattle.std.proofs.lemmas.List.FromFn.{length-range_with_len}
use Rattle.image.specs.Image.{byte_at}
use Rattle.mcs51_decode.specs.declared.instr.Source.TheVariants as source
use Rattle.mcs51_decode.specs.declared.instr.Place.TheVariants.{Accumulator, Memory as InMemory}
use Rattle.mcs51_decode.specs.declared.instr.BitTest.{BitTest}
use Rattle.mcs51_decode.specs.declared.instr.BitTest.TheVariants.{SetAndClear, Set, Clear}
use Rattle.mcs51_decode.specs.declared.instr.Comparison.TheVariants.{AccumulatorImmediate, AccumulatorDirect, WorkingImmediate}
use Rattle.mcs51_decode.specs.declared.instr.Counter.TheVariants as counter
use Rattle.mcs51_decode.specs.declared.instr.CodeBase.TheVariants.{ProgramCounter, DataPointer as AtDataPointer}
use Rattle.mcs51_decode.specs.declared.instr.External.{External}
use Rattle.mcs51_decode.specs.declared.instr.External.TheVariants.{DataPointer, Indirect}
use Rattle.mcs51_decode.specs.declared.instr.Instr.{Instr}
use Rattle.mcs51_decode.specs.declared.instr.Instr.TheVariants.{Nop, AbsoluteJump, AbsoluteCall, LongJump, LongCall, Return, ReturnFromInterrupt, JumpIndirect, JumpOn, JumpOnBit, CompareJump, DecrementJump, ChangeAccumulator, Increment, Decrement, IncrementDataPointer, Accumulate, DirectLogic, Multiply, Divide, ChangeCarry, CarryBit, ChangeBit, MoveImmediate, MoveToDirect, MoveFromDirect, LoadDataPointer, Load, Store, MoveCode, ReadExternal, WriteExternal, Push, Pop, Exchange, ExchangeDigit}
use Rattle.mcs51_decode.specs.declared.refusal.NoInstr.{NoInstr}
use Rattle.mcs51_decode.specs.Decoding.{decoded}
use Rattle.mcs51_chip.specs.declared.place.Access.{Access}
use Rattle.mcs51_chip.specs.declared.place.Address.{Address}
use Rattle.mcs51_chip.specs.declared.place.Address.TheVariants.{InRam, InSfr}
use Rattle.mcs51_chip.specs.declared.place.Sfr.{Sfr}
use Rattle.mcs51_chip.specs.declared.place.Sfr.TheVariants.{Sp, Dpl, Dph, Ie, Ip, Psw, Acc, B, Other}
use Rattle.mcs51_chip.specs.declared.state.ChipState.{ChipState}
use Rattle.mcs51_chip.specs.Interrupts.{coming, may_come}
use Rattle.mcs51_chip.specs.Memory.{direct_address, bit_address, read, read_code}
use Rattle.mcs51_chip.specs.Registers.{sfr_at, read_sfr}
use Rattle.mcs51_chip.specs.Step.{Effect, reading, updating, moving, jumping_on_bit, push_value, pushing, popping, reading_code, external_address, reading_external, writing_external, dividing, effect_of, executed, run, taken, step_of}
use Rattle.choosing.specs.Asking.{answer, ask, and_then}
use Rattle.choosing.specs.Fronts.{AsksAtMost, answer_asks, ask_asks, ask_if_asks, if_asks, choose_asks, then_asks, more_asks}

-- ---- bytes

answers : {A : Type 0} (most : ℕ) (a : A) → AsksAtMost most (answer a)
answers most a = more_asks 0 most _ (omega arith) (answer_asks a)

-- one question, and then an answer
one : {A : Type 0} (options : ℕ) (next : ℕ → A) → 0 < options → options ≤ 65536
    → AsksAtMost 1 (and_then (ask options) (λ (a : ℕ). answer (next a)))
one options next some few = then_asks 1 0 _ _ (ask_asks options some few) (λ (a : ℕ). answer_asks _)

sfr_asks : (s : ChipState) (sfr : Sfr) → AsksAtMost 1 (read_sfr s sfr)
sfr_asks s Sp = answers 1 _
sfr_asks s Dpl = answers 1 _
sfr_asks s Dph = answers 1 _
sfr_asks s Ie = one 2 _ (omega arith) (omega arith)
sfr_asks s Ip = one 4 _ (omega arith) (omega arith)
sfr_asks s Psw = one 2 _ (omega arith) (omega arith)
sfr_asks s Acc = answers 1 _
sfr_asks s B = answers 1 _
sfr_asks s Other = ask_asks 256 (omega arith) (omega arith)

read_asks : (s : ChipState) (address : Address) → AsksAtMost 1 (read s address)
unfolding read
read_asks s (InRam at) = answers 1 _
read_asks s (InSfr at) = sfr_asks s (sfr_at at)

code_asks : (byte : Option ℕ) → AsksAtMost 1 (read_code byte)
unfolding read_code
code_asks (Some byte) = answers 1 _
code_asks None = ask_asks 256 (omega arith) (omega arith)

-- ---- formats

-- a byte is read, and then nothing is asked
after_byte : {A : Type 0} (s : ChipState) (address : Address) (leads : ℕ → A)
    → AsksAtMost 2 (and_then (read s address) (λ (x : ℕ). answer (leads x)))
after_byte s address leads = more_asks 1 2 _ (omega arith) (then_asks 1 0 _ _ (read_asks s address) (λ (x : ℕ). answer_asks _))

reading_asks : (s : ChipState) (before : List Access) (address : Address) (leads : ℕ → ChipState)
    → AsksAtMost 2 (reading s before address leads)
unfolding reading
reading_asks s before address leads = after_byte s address _

updating_asks : (s : ChipState) (before : List Access) (address : Address) (leads : ℕ → ChipState)
    → AsksAtMost 2 (updating s before address leads)
unfolding updating
updating_asks s before address leads = after_byte s address _

moving_asks : (s : ChipState) (before : List Access) (from to : Address) → AsksAtMost 2 (moving s before from to)
unfolding moving
moving_asks s before from to = after_byte s from _

on_bit_asks : (s : ChipState) (test : BitTest) (address : Address) (place rel : ℕ) → AsksAtMost 2 (jumping_on_bit s test address place rel)
unfolding jumping_on_bit
on_bit_asks s SetAndClear address place rel = after_byte s address _
on_bit_asks s Set address place rel = reading_asks s _ _ _
on_bit_asks s Clear address place rel = reading_asks s _ _ _

value_asks : (s : ChipState) (direct : ℕ) → AsksAtMost 1 (push_value s direct)
unfolding push_value
value_asks s direct = if_asks 1 (direct == 0x81) _ _ (one 2 _ (omega arith) (omega arith)) (read_asks s (direct_address direct))

pushing_asks : (s : ChipState) (direct : ℕ) → AsksAtMost 2 (pushing s direct)
unfolding pushing
pushing_asks s direct = more_asks 1 2 _ (omega arith) (then_asks 1 0 _ _ (value_asks s direct) (λ (x : ℕ). answer_asks _))

popping_asks : (s : ChipState) (direct : ℕ) → AsksAtMost 2 (popping s direct)
unfolding popping
popping_asks s direct = more_asks 1 2 _ (omega arith) (then_asks 1 0 _ _ (ask_if_asks (direct == 0x81) 2 (omega arith) (omega arith)) (λ (option : ℕ). answer_asks _))

code_reads : (image : List (Option ℕ)) (s : ChipState) (at : ℕ) → AsksAtMost 2 (reading_code image s at)
unfolding reading_code
code_reads image s at = more_asks 1 2 _ (omega arith) (then_asks 1 0 _ _ (code_asks (byte_at image at)) (λ (x : ℕ). answer_asks _))

address_asks : (s : ChipState) (external : External) → AsksAtMost 1 (external_address s external)
unfolding external_address
address_asks s DataPointer = answers 1 _
address_asks s (Indirect i) = one 256 _ (omega arith) (omega arith)

external_reads_ask : (s : ChipState) (external : External) → AsksAtMost 2 (reading_external s external)
unfolding reading_external
external_reads_ask s external = then_asks 1 1 _ _ (address_asks s external) (λ (at : ℕ). one 256 _ (omega arith) (omega arith))

external_writes_ask : (s : ChipState) (external : External) → AsksAtMost 2 (writing_external s external)
unfolding writing_external
external_writes_ask s external = more_asks 1 2 _ (omega arith) (then_asks 1 0 _ _ (address_asks s external) (λ (at : ℕ). answer_asks _))

dividing_asks : (s : ChipState) → AsksAtMost 2 (dividing s)
unfolding dividing
dividing_asks s = if_asks 2 (s.b == 0) _ _ (then_asks 1 1 _ _ (ask_asks 256 (omega arith) (omega arith)) (λ (a : ℕ). one 256 _ (omega arith) (omega arith))) (answers 2 _)

-- ---- instructions

effect_asks : (image : List (Option ℕ)) (s : ChipState) (instr : Instr) → AsksAtMost 2 (effect_of image s instr)
unfolding effect_of
effect_asks image s Nop = answers 2 _
effect_asks image s (AbsoluteJump target) = answers 2 _
effect_asks image s (LongJump target) = answers 2 _
effect_asks image s JumpIndirect = answers 2 _
effect_asks image s (JumpOn condition rel) = answers 2 _
effect_asks image s (JumpOnBit test bit rel) = on_bit_asks s test (bit_address bit) (bit % 8) rel
effect_asks image s (CompareJump (AccumulatorImmediate value) rel) = answers 2 _
effect_asks image s (CompareJump (AccumulatorDirect direct) rel) = reading_asks s _ _ _
effect_asks image s (CompareJump (WorkingImmediate w value) rel) = reading_asks s _ _ _
effect_asks image s (DecrementJump (counter.Direct direct) rel) = updating_asks s _ _ _
effect_asks image s (DecrementJump (counter.Register n) rel) = updating_asks s _ _ _
effect_asks image s (AbsoluteCall target) = answers 2 _
effect_asks image s (LongCall target) = answers 2 _
effect_asks image s Return = answers 2 _
effect_asks image s ReturnFromInterrupt = answers 2 _
effect_asks image s (ChangeAccumulator operation) = answers 2 _
effect_asks image s (Increment Accumulator) = answers 2 _
effect_asks image s (Increment (InMemory m)) = updating_asks s _ _ _
effect_asks image s (Decrement Accumulator) = answers 2 _
effect_asks image s (Decrement (InMemory m)) = updating_asks s _ _ _
effect_asks image s IncrementDataPointer = answers 2 _
effect_asks image s (Accumulate operation (source.Immediate value)) = answers 2 _
effect_asks image s (Accumulate operation (source.Memory m)) = reading_asks s _ _ _
effect_asks image s (DirectLogic operation direct by) = updating_asks s _ _ _
effect_asks image s Multiply = answers 2 _
effect_asks image s Divide = dividing_asks s
effect_asks image s (ChangeCarry operation) = answers 2 _
effect_asks image s (CarryBit operation bit) = reading_asks s _ _ _
effect_asks image s (ChangeBit operation bit) = updating_asks s _ _ _
effect_asks image s (MoveImmediate Accumulator value) = answers 2 _
effect_asks image s (MoveImmediate (InMemory m) value) = answers 2 _
effect_asks image s (MoveToDirect to from) = moving_asks s _ _ _
effect_asks image s (MoveFromDirect to from) = moving_asks s _ _ _
effect_asks image s (LoadDataPointer value) = answers 2 _
effect_asks image s (Load m) = reading_asks s _ _ _
effect_asks image s (Store m) = answers 2 _
effect_asks image s (MoveCode ProgramCounter) = code_reads image s _
effect_asks image s (MoveCode AtDataPointer) = code_reads image s _
effect_asks image s (ReadExternal external) = external_reads_ask s external
effect_asks image s (WriteExternal external) = external_writes_ask s external
effect_asks image s (Push direct) = pushing_asks s direct
effect_asks image s (Pop direct) = popping_asks s direct
effect_asks image s (Exchange m) = updating_asks s _ _ _
effect_asks image s (ExchangeDigit i) = updating_asks s _ _ _

-- ---- steps

executed_asks : (image : List (Option ℕ)) (s : ChipState) (instr : Instr) → AsksAtMost 2 (executed image s instr)
unfolding executed
executed_asks image s instr = then_asks 2 0 _ _ (effect_asks image _ instr) (λ (effect : Effect). answer_asks _)

run_asks : (image : List (Option ℕ)) (s : ChipState) (found : Result (Instr × ℕ) NoInstr) → AsksAtMost 2 (run image s found)
run_asks image s (Ok (instr, len)) = executed_asks image s instr
run_asks image s (Err none) = answers 2 _

taken_asks : (image : List (Option ℕ)) (s : ChipState) (option : ℕ) → AsksAtMost 2 (taken image s option)
taken_asks image s option = choose_asks 2 (option == 0) _ _ (run_asks image s (decoded image s.pc)) (answers 2 _)

few_filtered : (p : ℕ → Bool) (n : ℕ) → length (filter p (range_with_len 0 n)) ≤ n
few_filtered p n = omega (arith, length-filter p (range_with_len 0 n), count_by-le-length p (range_with_len 0 n), length-range_with_len 0 n)

few_sources : (s : ChipState) → length (coming s) ≤ 6
unfolding coming
few_sources s = few_filtered (may_come s) 6

pub step_asks : (image : List (Option ℕ)) (s : ChipState) → AsksAtMost 3 (step_of image s)
unfolding step_of
step_asks image s =
    then_asks 1 2 _ _ (ask_if_asks (nat_lt 0 (length (coming s))) (1 + length (coming s)) (omega arith) (omega (arith, few_sources s))) (taken_asks image s)
