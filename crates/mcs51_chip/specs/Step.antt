-- One step of the MCS-51: an instruction, or the entry of an interrupt (Intel, MCS-51 Programmer's Guide and Instruction Set,
-- "Instruction Definitions" and "Interrupts"). The questions of a step come in this order: which interrupt comes, if any; the
-- high address byte of MOVX @Ri; which of the two values of PUSH SP and POP SP; a byte that is any; bits of PSW, IE or IP
-- that aren't held; A and then B of a division by 0.
use Rattle.std.specs.Prelude.{◌≡◌, ℕ, ◌+◌, ◌-◌, ◌*◌, ◌/◌, ◌%◌, ◌==◌, not, nat_lt, if◌then◌else◌, Bool, true, false, Option, Some, Result, Ok, Err, List, [], ◌∷◌, ◌++◌, length, map, slice_index}
use Rattle.std.specs.Int.{bit_at}
use Rattle.image.specs.Image.{byte_at}
use Rattle.chip_numbers.specs.declared.space.Space.TheVariants as space
use Rattle.chip_numbers.specs.Single.{Single}
use Rattle.chip_numbers.specs.Single.Single.{Instr as Ran, Edge, Access as Accessed, Stack}
use Rattle.mcs51_decode.specs.declared.instr.Working.TheVariants.{Indirect as At, Register as InRegister}
use Rattle.mcs51_decode.specs.declared.instr.Source.TheVariants as source
use Rattle.mcs51_decode.specs.declared.instr.Place.TheVariants.{Accumulator, Memory as InMemory}
use Rattle.mcs51_decode.specs.declared.instr.Mask.{Mask}
use Rattle.mcs51_decode.specs.declared.instr.Mask.TheVariants as mask
use Rattle.mcs51_decode.specs.declared.instr.Condition.{Condition}
use Rattle.mcs51_decode.specs.declared.instr.Condition.TheVariants.{Carry, NoCarry, Zero, NotZero, Always}
use Rattle.mcs51_decode.specs.declared.instr.BitTest.{BitTest}
use Rattle.mcs51_decode.specs.declared.instr.BitTest.TheVariants.{SetAndClear, Set, Clear}
use Rattle.mcs51_decode.specs.declared.instr.Comparison.TheVariants.{AccumulatorImmediate, AccumulatorDirect, WorkingImmediate}
use Rattle.mcs51_decode.specs.declared.instr.Counter.TheVariants as counter
use Rattle.mcs51_decode.specs.declared.instr.CodeBase.TheVariants.{ProgramCounter, DataPointer as AtDataPointer}
use Rattle.mcs51_decode.specs.declared.instr.External.{External as AnExternal}
use Rattle.mcs51_decode.specs.declared.instr.External.TheVariants.{DataPointer, Indirect}
use Rattle.mcs51_decode.specs.declared.instr.Instr.{Instr}
use Rattle.mcs51_decode.specs.declared.instr.Instr.TheVariants.{Nop, AbsoluteJump, AbsoluteCall, LongJump, LongCall, Return, ReturnFromInterrupt, JumpIndirect, JumpOn, JumpOnBit, CompareJump, DecrementJump, ChangeAccumulator, Increment, Decrement, IncrementDataPointer, Accumulate, DirectLogic, Multiply, Divide, ChangeCarry, CarryBit, ChangeBit, MoveImmediate, MoveToDirect, MoveFromDirect, LoadDataPointer, Load, Store, MoveCode, ReadExternal, WriteExternal, Push, Pop, Exchange, ExchangeDigit}
use Rattle.mcs51_decode.specs.declared.refusal.NoInstr.{NoInstr}
use Rattle.mcs51_decode.specs.Decoding.{decoded}
use Rattle.mcs51_decode.specs.Encoding.{bytes_of}
use Rattle.mcs51_decode.specs.Targets.{following, relative_target, absolute_target}
use Rattle.mcs51_chip.specs.declared.place.Access.{Access}
use Rattle.mcs51_chip.specs.declared.place.Access.TheVariants.{Internal, External, Code}
use Rattle.mcs51_chip.specs.declared.place.Address.{Address}
use Rattle.mcs51_chip.specs.declared.place.Address.TheVariants.{InRam, InSfr}
use Rattle.mcs51_chip.specs.declared.state.ChipState.{ChipState}
use Rattle.mcs51_chip.specs.Arithmetic.{accumulated, masked, changed, multiplied, divided, divided_by_zero, carry_after, carry_with, bit_after}
use Rattle.mcs51_chip.specs.Interrupts.{coming, vector_of, is_high, serving, level_ended}
use Rattle.mcs51_chip.specs.Memory.{direct_address, bit_address, pointed_by, working_address, address_of, read, write, read_code, pushed, top_of, popped, with_pushed_address, popped_address, reads, writes, pointer_reads, address_reads, push_writes, pop_reads}
use Rattle.mcs51_chip.specs.Registers.{bit_of, with_bit, carry_of, with_carry, data_pointer, with_data_pointer, with_accumulator}
use Rattle.choosing.specs.Asking.{Asking, answer, ask, ask_if, and_then, ◌>>=◌}
use Rattle.choosing.specs.Outcome.{Outcome as OutcomeBy}
use Rattle.choosing.specs.Outcome.Outcome.{Next, Wild}

-- the next state, with what the step did in its order, or that no instruction stands at PC
abbrev pub Outcome : Type 0
Outcome = OutcomeBy Single ChipState NoInstr

-- THE FORMATS OF INSTRUCTIONS. In the state s that an instruction works on, PC is already the address behind the instruction.
-- What it comes to is its accesses in their order, and the state behind it.

abbrev pub Effect : Type 0
Effect = List Access × ChipState

-- no operand stands in memory
abbrev pub implied : ChipState → Asking Effect
implied t = answer ([], t)

-- a byte is read
unfoldable pub reading : ChipState → List Access → Address → (ℕ → ChipState) → Asking Effect
reading s before address leads = do
  x ← read s address
  answer (before ++ reads address, leads x)

-- a byte is written
abbrev pub writing : ChipState → List Access → Address → ℕ → Asking Effect
writing s before address x = answer (before ++ writes address, write address x s)

-- a byte is read, and another one is written in its place
unfoldable pub updating : ChipState → List Access → Address → (ℕ → ChipState) → Asking Effect
updating s before address leads = do
  x ← read s address
  answer (before ++ reads address ++ writes address, leads x)

-- the same where nothing else changes
abbrev pub changing : ChipState → List Access → Address → (ℕ → ℕ) → Asking Effect
changing s before address change = updating s before address (λ x. write address (change x) s)

-- a byte is read, and written to another address
unfoldable pub moving : ChipState → List Access → (from to : Address) → Asking Effect
moving s before from to = do
  x ← read s from
  answer (before ++ reads from ++ writes to, write to x s)

-- JUMPS AND CALLS

abbrev pub going_to : ℕ → ChipState → ChipState
going_to target s = record s { pc = target }

-- a relative jump, where it is taken
abbrev pub branched : Bool → ℕ → ChipState → ChipState
branched taken rel s = going_to (if taken then relative_target s.pc rel else s.pc) s

abbrev pub holds : Condition → ChipState → Bool
holds Carry s = carry_of s == 1
holds NoCarry s = carry_of s == 0
holds Zero s = s.a == 0
holds NotZero s = not (s.a == 0)
holds Always s = true

-- JBC: the bit is cleared where it was set, and nothing is written where it was not
abbrev pub cleared : ChipState → Address → (place rel x : ℕ) → Effect
cleared s address place rel x =
    if bit_at x place == 1 then (reads address ++ writes address, branched true rel (write address (with_bit x place 0) s))
    else (reads address, branched false rel s)

unfoldable pub jumping_on_bit : ChipState → BitTest → Address → (place rel : ℕ) → Asking Effect
jumping_on_bit s SetAndClear address place rel = and_then (read s address) (λ x. answer (cleared s address place rel x))
jumping_on_bit s Set address place rel = reading s [] address (λ x. branched (bit_at x place == 1) rel s)
jumping_on_bit s Clear address place rel = reading s [] address (λ x. branched (bit_at x place == 0) rel s)

-- CJNE: CY is set where the first byte is less
abbrev pub compared : (x y rel : ℕ) → ChipState → ChipState
compared x y rel s = branched (not (x == y)) rel (with_carry (bit_of (nat_lt x y)) s)

-- DJNZ: the jump is taken where the lowered byte isn't 0
abbrev pub counting : ChipState → Address → (rel : ℕ) → Asking Effect
counting s address rel = updating s [] address (λ x. branched (not ((x + 255) % 256 == 0)) rel (write address ((x + 255) % 256) s))

abbrev pub called : ℕ → ChipState → ChipState
called target s = going_to target (with_pushed_address s.pc s)

abbrev pub returned : ChipState → ChipState
returned s = going_to (popped_address s) (popped (popped s))

-- THE STACK

-- PUSH SP stores SP as it was or as it is raised
unfoldable pub push_value : ChipState → (direct : ℕ) → Asking ℕ
push_value s direct choices =
    if direct == 0x81 then and_then (ask 2) (λ option. answer ((s.sp + option) % 256)) choices else read s (direct_address direct) choices

unfoldable pub pushing : ChipState → (direct : ℕ) → Asking Effect
pushing s direct = do
  x ← push_value s direct
  answer (reads (direct_address direct) ++ writes (InRam ((s.sp + 1) % 256)), pushed x s)

-- POP SP leaves the byte that was read or one less
unfoldable pub popping : ChipState → (direct : ℕ) → Asking Effect
popping s direct = do
  option ← ask_if (direct == 0x81) 2
  answer (reads (InRam s.sp) ++ writes (direct_address direct), write (direct_address direct) ((top_of s + 256 - option) % 256) (popped s))

-- OTHER MEMORIES

unfoldable pub reading_code : List (Option ℕ) → ChipState → (at : ℕ) → Asking Effect
reading_code image s at = do
  x ← read_code (byte_at image at)
  answer (Code at ∷ [], with_accumulator x s)

-- the high byte of the address of MOVX @Ri is any
unfoldable pub external_address : ChipState → AnExternal → Asking ℕ
external_address s DataPointer = answer (data_pointer s)
external_address s (Indirect i) = and_then (ask 256) (λ high. answer (pointed_by s i + 256 * high))

abbrev pub external_reads : ChipState → AnExternal → List Access
external_reads s DataPointer = []
external_reads s (Indirect i) = pointer_reads s (At i)

-- external RAM reads as any byte
unfoldable pub reading_external : ChipState → AnExternal → Asking Effect
reading_external s external = do
  at ← external_address s external
  x ← ask 256
  answer (external_reads s external ++ External false at ∷ [], with_accumulator x s)

unfoldable pub writing_external : ChipState → AnExternal → Asking Effect
writing_external s external = do
  at ← external_address s external
  answer (external_reads s external ++ External true at ∷ [], s)

-- OTHER FORMATS

unfoldable pub dividing : ChipState → Asking Effect
dividing s choices =
    if s.b == 0 then and_then (ask 256) (λ a. and_then (ask 256) (λ b. implied (divided_by_zero a b s))) choices
    else Some (([], divided s), choices)

-- XCH A and a byte
abbrev pub exchanged_with : ChipState → Address → ℕ → ChipState
exchanged_with s address x = with_accumulator x (write address s.a s)

-- XCHD: the low digits change places
abbrev pub digit_exchanged_with : ChipState → Address → ℕ → ChipState
digit_exchanged_with s address x = with_accumulator (s.a / 16 * 16 + x % 16) (write address (x / 16 * 16 + s.a % 16) s)

abbrev pub mask_value : ChipState → Mask → ℕ
mask_value s mask.Accumulator = s.a
mask_value s (mask.Immediate value) = value

-- INSTRUCTIONS

unfoldable pub effect_of : List (Option ℕ) → ChipState → Instr → Asking Effect
effect_of image s Nop = implied s
effect_of image s (AbsoluteJump target) = implied (going_to (absolute_target s.pc target) s)
effect_of image s (LongJump target) = implied (going_to target s)
effect_of image s JumpIndirect = implied (going_to ((s.a + data_pointer s) % 65536) s)
effect_of image s (JumpOn condition rel) = implied (branched (holds condition s) rel s)
effect_of image s (JumpOnBit test bit rel) = jumping_on_bit s test (bit_address bit) (bit % 8) rel
effect_of image s (CompareJump (AccumulatorImmediate value) rel) = implied (compared s.a value rel s)
effect_of image s (CompareJump (AccumulatorDirect direct) rel) = reading s [] (direct_address direct) (λ x. compared s.a x rel s)
effect_of image s (CompareJump (WorkingImmediate w value) rel) = reading s (pointer_reads s w) (working_address s w) (λ x. compared x value rel s)
effect_of image s (DecrementJump (counter.Direct direct) rel) = counting s (direct_address direct) rel
effect_of image s (DecrementJump (counter.Register n) rel) = counting s (working_address s (InRegister n)) rel
effect_of image s (AbsoluteCall target) = answer (push_writes s, called (absolute_target s.pc target) s)
effect_of image s (LongCall target) = answer (push_writes s, called target s)
effect_of image s Return = answer (pop_reads s, returned s)
effect_of image s ReturnFromInterrupt = answer (pop_reads s, level_ended (returned s))
effect_of image s (ChangeAccumulator operation) = implied (changed operation s)
effect_of image s (Increment Accumulator) = implied (with_accumulator ((s.a + 1) % 256) s)
effect_of image s (Increment (InMemory m)) = changing s (address_reads s m) (address_of s m) (λ x. (x + 1) % 256)
effect_of image s (Decrement Accumulator) = implied (with_accumulator ((s.a + 255) % 256) s)
effect_of image s (Decrement (InMemory m)) = changing s (address_reads s m) (address_of s m) (λ x. (x + 255) % 256)
effect_of image s IncrementDataPointer = implied (with_data_pointer ((data_pointer s + 1) % 65536) s)
effect_of image s (Accumulate operation (source.Immediate value)) = implied (accumulated operation value s)
effect_of image s (Accumulate operation (source.Memory m)) = reading s (address_reads s m) (address_of s m) (λ x. accumulated operation x s)
effect_of image s (DirectLogic operation direct by) = changing s [] (direct_address direct) (λ x. masked operation x (mask_value s by))
effect_of image s Multiply = implied (multiplied s)
effect_of image s Divide = dividing s
effect_of image s (ChangeCarry operation) = implied (with_carry (carry_after operation (carry_of s)) s)
effect_of image s (CarryBit operation bit) = reading s [] (bit_address bit) (λ x. with_carry (carry_with operation (carry_of s) (bit_at x (bit % 8))) s)
effect_of image s (ChangeBit operation bit) =
    changing s [] (bit_address bit) (λ x. with_bit x (bit % 8) (bit_after operation (carry_of s) (bit_at x (bit % 8))))
effect_of image s (MoveImmediate Accumulator value) = implied (with_accumulator value s)
effect_of image s (MoveImmediate (InMemory m) value) = writing s (address_reads s m) (address_of s m) value
effect_of image s (MoveToDirect to from) = moving s (address_reads s from) (address_of s from) (direct_address to)
effect_of image s (MoveFromDirect to from) = moving s (pointer_reads s to) (direct_address from) (working_address s to)
effect_of image s (LoadDataPointer value) = implied (with_data_pointer value s)
effect_of image s (Load m) = reading s (address_reads s m) (address_of s m) (λ x. with_accumulator x s)
effect_of image s (Store m) = writing s (address_reads s m) (address_of s m) s.a
effect_of image s (MoveCode ProgramCounter) = reading_code image s ((s.a + s.pc) % 65536)
effect_of image s (MoveCode AtDataPointer) = reading_code image s ((s.a + data_pointer s) % 65536)
effect_of image s (ReadExternal external) = reading_external s external
effect_of image s (WriteExternal external) = writing_external s external
effect_of image s (Push direct) = pushing s direct
effect_of image s (Pop direct) = popping s direct
effect_of image s (Exchange m) = updating s (address_reads s m) (address_of s m) (exchanged_with s (address_of s m))
effect_of image s (ExchangeDigit i) = updating s (pointer_reads s (At i)) (working_address s (At i)) (digit_exchanged_with s (working_address s (At i)))

-- STEPS

abbrev pub accessed : ℕ → Access → Single
accessed pc (Internal write (InRam at)) = Accessed pc space.Ram write 1 at
accessed pc (Internal write (InSfr at)) = Accessed pc space.Sfr write 1 at
accessed pc (External write at) = Accessed pc space.Xram write 1 at
accessed pc (Code at) = Accessed pc space.Code false 1 at

-- what a step did: SP before it, the instruction, if it is one, the accesses, and where control goes
abbrev pub stepped : ChipState → List Single → Effect → Outcome
stepped s ran effect =
    Next (Stack s.pc s.sp ∷ ran ++ map (accessed s.pc) effect.0 ++ Edge s.pc effect.1.pc ∷ []) effect.1

unfoldable pub executed : List (Option ℕ) → ChipState → Instr → Asking Outcome
executed image s instr = do
  effect ← effect_of image (going_to (following s.pc instr) s) instr
  answer (stepped s (Ran s.pc (bytes_of instr) ∷ []) effect)

-- an interrupt is a call of its handler, and its level is then in service
unfoldable pub entered : ChipState → (source : ℕ) → Outcome
entered s source = stepped s [] (push_writes s, serving (is_high s source) (called (vector_of source) s))

-- the instruction that stands at PC runs
abbrev pub run : List (Option ℕ) → ChipState → Result (Instr × ℕ) NoInstr → Asking Outcome
run image s (Ok (instr, len)) = executed image s instr
run image s (Err none) = answer (Wild none)

-- option 0 is no interrupt, and the others are those that may come
abbrev pub taken : List (Option ℕ) → ChipState → ℕ → Asking Outcome
taken image s option =
    if option == 0 then run image s (decoded image s.pc) else answer (entered s (slice_index (coming s) (option - 1)))

-- which of the interrupts that may come does so: where none may, nothing is asked
abbrev pub interrupt_option : ChipState → Asking ℕ
interrupt_option s = ask_if (nat_lt 0 (length (coming s))) (1 + length (coming s))

-- one step from a state
unfoldable pub step_of : List (Option ℕ) → ChipState → Asking Outcome
step_of image s = do
  option ← interrupt_option s
  taken image s option

-- a state may lead to an outcome by these choices, which are as many as it asks
abbrev pub Step : List (Option ℕ) → ChipState → List ℕ → Outcome → Type 0
Step image s choices outcome = step_of image s choices ≡ Some (outcome, [])
