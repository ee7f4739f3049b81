-- The bytes of an instruction, from the instruction: its opcode, by its fields, and its operands.
use Rattle.std.specs.Prelude.{ℕ, ◌+◌, ◌*◌, ◌/◌, ◌%◌, List, [], ◌∷◌, ◌++◌, length}
use Rattle.mcs51_decode.specs.declared.instr.Register.{Register}
use Rattle.mcs51_decode.specs.declared.instr.Register.TheVariants as register
use Rattle.mcs51_decode.specs.declared.instr.Pointer.{Pointer}
use Rattle.mcs51_decode.specs.declared.instr.Pointer.TheVariants as pointer
use Rattle.mcs51_decode.specs.declared.instr.Working.{Working}
use Rattle.mcs51_decode.specs.declared.instr.Working.TheVariants as working
use Rattle.mcs51_decode.specs.declared.instr.Memory.{Memory}
use Rattle.mcs51_decode.specs.declared.instr.Memory.TheVariants as memory
use Rattle.mcs51_decode.specs.declared.instr.Source.{Source}
use Rattle.mcs51_decode.specs.declared.instr.Source.TheVariants as source
use Rattle.mcs51_decode.specs.declared.instr.Place.{Place}
use Rattle.mcs51_decode.specs.declared.instr.Place.TheVariants as place
use Rattle.mcs51_decode.specs.declared.instr.Operation.{Operation}
use Rattle.mcs51_decode.specs.declared.instr.Operation.TheVariants as operation
use Rattle.mcs51_decode.specs.declared.instr.Logic.{Logic}
use Rattle.mcs51_decode.specs.declared.instr.Logic.TheVariants as logic
use Rattle.mcs51_decode.specs.declared.instr.Mask.{Mask}
use Rattle.mcs51_decode.specs.declared.instr.Mask.TheVariants as mask
use Rattle.mcs51_decode.specs.declared.instr.AccumulatorOperation.{AccumulatorOperation}
use Rattle.mcs51_decode.specs.declared.instr.AccumulatorOperation.TheVariants as accumulator
use Rattle.mcs51_decode.specs.declared.instr.CarryOperation.{CarryOperation}
use Rattle.mcs51_decode.specs.declared.instr.CarryOperation.TheVariants as carry
use Rattle.mcs51_decode.specs.declared.instr.CarryByBit.{CarryByBit}
use Rattle.mcs51_decode.specs.declared.instr.CarryByBit.TheVariants as by_bit
use Rattle.mcs51_decode.specs.declared.instr.BitOperation.{BitOperation}
use Rattle.mcs51_decode.specs.declared.instr.BitOperation.TheVariants as bit
use Rattle.mcs51_decode.specs.declared.instr.Condition.{Condition}
use Rattle.mcs51_decode.specs.declared.instr.Condition.TheVariants as condition
use Rattle.mcs51_decode.specs.declared.instr.BitTest.{BitTest}
use Rattle.mcs51_decode.specs.declared.instr.BitTest.TheVariants as test
use Rattle.mcs51_decode.specs.declared.instr.Comparison.{Comparison}
use Rattle.mcs51_decode.specs.declared.instr.Comparison.TheVariants as comparison
use Rattle.mcs51_decode.specs.declared.instr.Counter.{Counter}
use Rattle.mcs51_decode.specs.declared.instr.Counter.TheVariants as counter
use Rattle.mcs51_decode.specs.declared.instr.CodeBase.{CodeBase}
use Rattle.mcs51_decode.specs.declared.instr.CodeBase.TheVariants as base
use Rattle.mcs51_decode.specs.declared.instr.External.{External}
use Rattle.mcs51_decode.specs.declared.instr.External.TheVariants as external
use Rattle.mcs51_decode.specs.declared.instr.Instr.{Instr}
use Rattle.mcs51_decode.specs.declared.instr.Instr.TheVariants.{Nop, AbsoluteJump, AbsoluteCall, LongJump, LongCall, Return, ReturnFromInterrupt, JumpIndirect, JumpOn, JumpOnBit, CompareJump, DecrementJump, ChangeAccumulator, Increment, Decrement, IncrementDataPointer, Accumulate, DirectLogic, Multiply, Divide, ChangeCarry, CarryBit, ChangeBit, MoveImmediate, MoveToDirect, MoveFromDirect, LoadDataPointer, Load, Store, MoveCode, ReadExternal, WriteExternal, Push, Pop, Exchange, ExchangeDigit}

abbrev pub register_number : Register → ℕ
register_number register.R0 = 0
register_number register.R1 = 1
register_number register.R2 = 2
register_number register.R3 = 3
register_number register.R4 = 4
register_number register.R5 = 5
register_number register.R6 = 6
register_number register.R7 = 7

abbrev pub pointer_number : Pointer → ℕ
pointer_number pointer.R0 = 0
pointer_number pointer.R1 = 1

-- @R0, @R1 and R0 to R7 have the columns 6 to F
abbrev pub working_column : Working → ℕ
working_column (working.Indirect i) = 0x6 + pointer_number i
working_column (working.Register n) = 0x8 + register_number n

-- a direct byte has the column 5
abbrev pub memory_column : Memory → ℕ
memory_column (memory.Direct direct) = 0x5
memory_column (memory.Working w) = working_column w

abbrev pub memory_operands : Memory → List ℕ
memory_operands (memory.Direct direct) = direct ∷ []
memory_operands (memory.Working w) = []

abbrev pub source_column : Source → ℕ
source_column (source.Immediate value) = 0x4
source_column (source.Memory m) = memory_column m

abbrev pub source_operands : Source → List ℕ
source_operands (source.Immediate value) = value ∷ []
source_operands (source.Memory m) = memory_operands m

abbrev pub place_column : Place → ℕ
place_column place.Accumulator = 0x4
place_column (place.Memory m) = memory_column m

abbrev pub place_operands : Place → List ℕ
place_operands place.Accumulator = []
place_operands (place.Memory m) = memory_operands m

abbrev pub operation_line : Operation → ℕ
operation_line operation.Add = 0x20
operation_line operation.Addc = 0x30
operation_line operation.Orl = 0x40
operation_line operation.Anl = 0x50
operation_line operation.Xrl = 0x60
operation_line operation.Subb = 0x90

abbrev pub logic_line : Logic → ℕ
logic_line logic.Orl = 0x40
logic_line logic.Anl = 0x50
logic_line logic.Xrl = 0x60

abbrev pub accumulator_code : AccumulatorOperation → ℕ
accumulator_code accumulator.Rr = 0x03
accumulator_code accumulator.Rrc = 0x13
accumulator_code accumulator.Rl = 0x23
accumulator_code accumulator.Rlc = 0x33
accumulator_code accumulator.Swap = 0xC4
accumulator_code accumulator.Da = 0xD4
accumulator_code accumulator.Clr = 0xE4
accumulator_code accumulator.Cpl = 0xF4

abbrev pub carry_code : CarryOperation → ℕ
carry_code carry.Cpl = 0xB3
carry_code carry.Clr = 0xC3
carry_code carry.Setb = 0xD3

abbrev pub carry_bit_code : CarryByBit → ℕ
carry_bit_code by_bit.Orl = 0x72
carry_bit_code by_bit.Anl = 0x82
carry_bit_code by_bit.OrlComplement = 0xA0
carry_bit_code by_bit.AnlComplement = 0xB0
carry_bit_code by_bit.Mov = 0xA2

abbrev pub bit_code : BitOperation → ℕ
bit_code bit.MovCarry = 0x92
bit_code bit.Cpl = 0xB2
bit_code bit.Clr = 0xC2
bit_code bit.Setb = 0xD2

abbrev pub condition_code : Condition → ℕ
condition_code condition.Carry = 0x40
condition_code condition.NoCarry = 0x50
condition_code condition.Zero = 0x60
condition_code condition.NotZero = 0x70
condition_code condition.Always = 0x80

abbrev pub test_code : BitTest → ℕ
test_code test.SetAndClear = 0x10
test_code test.Set = 0x20
test_code test.Clear = 0x30

abbrev pub base_code : CodeBase → ℕ
base_code base.ProgramCounter = 0x83
base_code base.DataPointer = 0x93

abbrev pub mask_column : Mask → ℕ
mask_column mask.Accumulator = 0x2
mask_column (mask.Immediate value) = 0x3

abbrev pub mask_operands : Mask → List ℕ
mask_operands mask.Accumulator = []
mask_operands (mask.Immediate value) = value ∷ []

abbrev pub comparison_column : Comparison → ℕ
comparison_column (comparison.AccumulatorImmediate value) = 0x4
comparison_column (comparison.AccumulatorDirect direct) = 0x5
comparison_column (comparison.WorkingImmediate w value) = working_column w

abbrev pub comparison_operand : Comparison → ℕ
comparison_operand (comparison.AccumulatorImmediate value) = value
comparison_operand (comparison.AccumulatorDirect direct) = direct
comparison_operand (comparison.WorkingImmediate w value) = value

abbrev pub counter_column : Counter → ℕ
counter_column (counter.Direct direct) = 0x5
counter_column (counter.Register n) = 0x8 + register_number n

abbrev pub counter_operands : Counter → List ℕ
counter_operands (counter.Direct direct) = direct ∷ []
counter_operands (counter.Register n) = []

abbrev pub external_column : External → ℕ
external_column external.DataPointer = 0x0
external_column (external.Indirect i) = 0x2 + pointer_number i

-- the opcode of an instruction
abbrev pub opcode_of : Instr → ℕ
opcode_of Nop = 0x00
opcode_of (AbsoluteJump target) = 0x01 + 32 * (target / 256 % 8)
opcode_of (AbsoluteCall target) = 0x11 + 32 * (target / 256 % 8)
opcode_of (LongJump target) = 0x02
opcode_of (LongCall target) = 0x12
opcode_of Return = 0x22
opcode_of ReturnFromInterrupt = 0x32
opcode_of JumpIndirect = 0x73
opcode_of (JumpOn when rel) = condition_code when
opcode_of (JumpOnBit kind address rel) = test_code kind
opcode_of (CompareJump compared rel) = 0xB0 + comparison_column compared
opcode_of (DecrementJump counted rel) = 0xD0 + counter_column counted
opcode_of (ChangeAccumulator does) = accumulator_code does
opcode_of (Increment changed) = 0x00 + place_column changed
opcode_of (Decrement changed) = 0x10 + place_column changed
opcode_of IncrementDataPointer = 0xA3
opcode_of (Accumulate does with) = operation_line does + source_column with
opcode_of (DirectLogic does direct by) = logic_line does + mask_column by
opcode_of Multiply = 0xA4
opcode_of Divide = 0x84
opcode_of (ChangeCarry does) = carry_code does
opcode_of (CarryBit does address) = carry_bit_code does
opcode_of (ChangeBit does address) = bit_code does
opcode_of (MoveImmediate to value) = 0x70 + place_column to
opcode_of (MoveToDirect to from) = 0x80 + memory_column from
opcode_of (MoveFromDirect to from) = 0xA0 + working_column to
opcode_of (LoadDataPointer value) = 0x90
opcode_of (Load m) = 0xE0 + memory_column m
opcode_of (Store m) = 0xF0 + memory_column m
opcode_of (MoveCode from) = base_code from
opcode_of (ReadExternal at) = 0xE0 + external_column at
opcode_of (WriteExternal at) = 0xF0 + external_column at
opcode_of (Push direct) = 0xC0
opcode_of (Pop direct) = 0xD0
opcode_of (Exchange m) = 0xC0 + memory_column m
opcode_of (ExchangeDigit i) = 0xD6 + pointer_number i

-- the bytes of a word, the high one first
abbrev pub word_bytes : ℕ → List ℕ
word_bytes word = (word / 256) ∷ word % 256 ∷ []

-- the bytes behind it; MOV of a direct byte to a direct byte has the source first
abbrev pub operand_bytes : Instr → List ℕ
operand_bytes Nop = []
operand_bytes (AbsoluteJump target) = target % 256 ∷ []
operand_bytes (AbsoluteCall target) = target % 256 ∷ []
operand_bytes (LongJump target) = word_bytes target
operand_bytes (LongCall target) = word_bytes target
operand_bytes Return = []
operand_bytes ReturnFromInterrupt = []
operand_bytes JumpIndirect = []
operand_bytes (JumpOn when rel) = rel ∷ []
operand_bytes (JumpOnBit kind address rel) = address ∷ rel ∷ []
operand_bytes (CompareJump compared rel) = comparison_operand compared ∷ rel ∷ []
operand_bytes (DecrementJump counted rel) = counter_operands counted ++ rel ∷ []
operand_bytes (ChangeAccumulator does) = []
operand_bytes (Increment changed) = place_operands changed
operand_bytes (Decrement changed) = place_operands changed
operand_bytes IncrementDataPointer = []
operand_bytes (Accumulate does with) = source_operands with
operand_bytes (DirectLogic does direct by) = direct ∷ mask_operands by
operand_bytes Multiply = []
operand_bytes Divide = []
operand_bytes (ChangeCarry does) = []
operand_bytes (CarryBit does address) = address ∷ []
operand_bytes (ChangeBit does address) = address ∷ []
operand_bytes (MoveImmediate to value) = place_operands to ++ value ∷ []
operand_bytes (MoveToDirect to from) = memory_operands from ++ to ∷ []
operand_bytes (MoveFromDirect to from) = from ∷ []
operand_bytes (LoadDataPointer value) = word_bytes value
operand_bytes (Load m) = memory_operands m
operand_bytes (Store m) = memory_operands m
operand_bytes (MoveCode from) = []
operand_bytes (ReadExternal at) = []
operand_bytes (WriteExternal at) = []
operand_bytes (Push direct) = direct ∷ []
operand_bytes (Pop direct) = direct ∷ []
operand_bytes (Exchange m) = memory_operands m
operand_bytes (ExchangeDigit i) = []

-- the bytes of an instruction
abbrev pub bytes_of : Instr → List ℕ
bytes_of instr = opcode_of instr ∷ operand_bytes instr

-- the number of its bytes
abbrev pub length_of : Instr → ℕ
length_of instr = length (bytes_of instr)
