-- The text of instructions, in the notation of Intel's MCS-51 Programmer's Guide and Instruction Set: hexadecimal numbers
-- have two or four digits and an h, and jumps and calls show the address that they reach.
use Rattle.std.specs.Prelude.{ℕ, List, [], ◌++◌, codes, Option, None, Some}
use Rattle.mcs51_decode.specs.declared.instr.Register.{Register}
use Rattle.mcs51_decode.specs.declared.instr.Register.TheVariants as register
use Rattle.mcs51_decode.specs.declared.instr.Pointer.{Pointer}
use Rattle.mcs51_decode.specs.declared.instr.Pointer.TheVariants as pointer
use Rattle.mcs51_decode.specs.declared.instr.Working.{Working}
use Rattle.mcs51_decode.specs.declared.instr.Working.TheVariants as working
use Rattle.mcs51_decode.specs.declared.instr.Memory.{Memory}
use Rattle.mcs51_decode.specs.declared.instr.Memory.TheVariants as memory
use Rattle.mcs51_decode.specs.declared.instr.Source.{Source}
use Rattle.mcs51_decode.specs.declared.instr.Source.TheVariants as source
use Rattle.mcs51_decode.specs.declared.instr.Place.{Place}
use Rattle.mcs51_decode.specs.declared.instr.Place.TheVariants as place
use Rattle.mcs51_decode.specs.declared.instr.Operation.{Operation}
use Rattle.mcs51_decode.specs.declared.instr.Operation.TheVariants as operation
use Rattle.mcs51_decode.specs.declared.instr.Logic.{Logic}
use Rattle.mcs51_decode.specs.declared.instr.Logic.TheVariants as logic
use Rattle.mcs51_decode.specs.declared.instr.Mask.{Mask}
use Rattle.mcs51_decode.specs.declared.instr.Mask.TheVariants as mask
use Rattle.mcs51_decode.specs.declared.instr.AccumulatorOperation.{AccumulatorOperation}
use Rattle.mcs51_decode.specs.declared.instr.AccumulatorOperation.TheVariants as accumulator
use Rattle.mcs51_decode.specs.declared.instr.CarryOperation.{CarryOperation}
use Rattle.mcs51_decode.specs.declared.instr.CarryOperation.TheVariants as carry
use Rattle.mcs51_decode.specs.declared.instr.CarryByBit.{CarryByBit}
use Rattle.mcs51_decode.specs.declared.instr.CarryByBit.TheVariants as by_bit
use Rattle.mcs51_decode.specs.declared.instr.BitOperation.{BitOperation}
use Rattle.mcs51_decode.specs.declared.instr.BitOperation.TheVariants as bit
use Rattle.mcs51_decode.specs.declared.instr.Condition.{Condition}
use Rattle.mcs51_decode.specs.declared.instr.Condition.TheVariants as condition
use Rattle.mcs51_decode.specs.declared.instr.BitTest.{BitTest}
use Rattle.mcs51_decode.specs.declared.instr.BitTest.TheVariants as test
use Rattle.mcs51_decode.specs.declared.instr.Comparison.{Comparison}
use Rattle.mcs51_decode.specs.declared.instr.Comparison.TheVariants as comparison
use Rattle.mcs51_decode.specs.declared.instr.Counter.{Counter}
use Rattle.mcs51_decode.specs.declared.instr.Counter.TheVariants as counter
use Rattle.mcs51_decode.specs.declared.instr.CodeBase.{CodeBase}
use Rattle.mcs51_decode.specs.declared.instr.CodeBase.TheVariants as base
use Rattle.mcs51_decode.specs.declared.instr.External.{External}
use Rattle.mcs51_decode.specs.declared.instr.External.TheVariants as external
use Rattle.mcs51_decode.specs.declared.instr.Instr.{Instr}
use Rattle.mcs51_decode.specs.declared.instr.Instr.TheVariants.{Nop, AbsoluteJump, AbsoluteCall, LongJump, LongCall, Return, ReturnFromInterrupt, JumpIndirect, JumpOn, JumpOnBit, CompareJump, DecrementJump, ChangeAccumulator, Increment, Decrement, IncrementDataPointer, Accumulate, DirectLogic, Multiply, Divide, ChangeCarry, CarryBit, ChangeBit, MoveImmediate, MoveToDirect, MoveFromDirect, LoadDataPointer, Load, Store, MoveCode, ReadExternal, WriteExternal, Push, Pop, Exchange, ExchangeDigit}
use Rattle.mcs51_decode.specs.Targets.{target_of}
use Rattle.hex_digits.specs.Digits.{byte_text, word_text}

abbrev pub register_text : Register → List ℕ
register_text register.R0 = codes "R0"
register_text register.R1 = codes "R1"
register_text register.R2 = codes "R2"
register_text register.R3 = codes "R3"
register_text register.R4 = codes "R4"
register_text register.R5 = codes "R5"
register_text register.R6 = codes "R6"
register_text register.R7 = codes "R7"

abbrev pub pointer_text : Pointer → List ℕ
pointer_text pointer.R0 = codes "@R0"
pointer_text pointer.R1 = codes "@R1"

abbrev pub operation_text : Operation → List ℕ
operation_text operation.Add = codes "ADD A,"
operation_text operation.Addc = codes "ADDC A,"
operation_text operation.Orl = codes "ORL A,"
operation_text operation.Anl = codes "ANL A,"
operation_text operation.Xrl = codes "XRL A,"
operation_text operation.Subb = codes "SUBB A,"

abbrev pub logic_text : Logic → List ℕ
logic_text logic.Orl = codes "ORL "
logic_text logic.Anl = codes "ANL "
logic_text logic.Xrl = codes "XRL "

abbrev pub accumulator_text : AccumulatorOperation → List ℕ
accumulator_text accumulator.Rr = codes "RR A"
accumulator_text accumulator.Rrc = codes "RRC A"
accumulator_text accumulator.Rl = codes "RL A"
accumulator_text accumulator.Rlc = codes "RLC A"
accumulator_text accumulator.Swap = codes "SWAP A"
accumulator_text accumulator.Da = codes "DA A"
accumulator_text accumulator.Clr = codes "CLR A"
accumulator_text accumulator.Cpl = codes "CPL A"

abbrev pub carry_text : CarryOperation → List ℕ
carry_text carry.Cpl = codes "CPL C"
carry_text carry.Clr = codes "CLR C"
carry_text carry.Setb = codes "SETB C"

abbrev pub carry_bit_text : CarryByBit → List ℕ
carry_bit_text by_bit.Orl = codes "ORL C,"
carry_bit_text by_bit.Anl = codes "ANL C,"
carry_bit_text by_bit.OrlComplement = codes "ORL C,/"
carry_bit_text by_bit.AnlComplement = codes "ANL C,/"
carry_bit_text by_bit.Mov = codes "MOV C,"

abbrev pub bit_text : BitOperation → List ℕ
bit_text bit.MovCarry = codes "MOV "
bit_text bit.Cpl = codes "CPL "
bit_text bit.Clr = codes "CLR "
bit_text bit.Setb = codes "SETB "

abbrev pub bit_end : BitOperation → List ℕ
bit_end bit.MovCarry = codes ",C"
bit_end bit.Cpl = []
bit_end bit.Clr = []
bit_end bit.Setb = []

abbrev pub condition_text : Condition → List ℕ
condition_text condition.Carry = codes "JC "
condition_text condition.NoCarry = codes "JNC "
condition_text condition.Zero = codes "JZ "
condition_text condition.NotZero = codes "JNZ "
condition_text condition.Always = codes "SJMP "

abbrev pub test_text : BitTest → List ℕ
test_text test.SetAndClear = codes "JBC "
test_text test.Set = codes "JB "
test_text test.Clear = codes "JNB "

abbrev pub base_text : CodeBase → List ℕ
base_text base.ProgramCounter = codes "MOVC A,@A+PC"
base_text base.DataPointer = codes "MOVC A,@A+DPTR"

-- a byte: a direct address, a bit's address, or a number
abbrev pub immediate_text : ℕ → List ℕ
immediate_text value = codes "#" ++ byte_text value

abbrev pub working_text : Working → List ℕ
working_text (working.Indirect i) = pointer_text i
working_text (working.Register n) = register_text n

abbrev pub memory_text : Memory → List ℕ
memory_text (memory.Direct direct) = byte_text direct
memory_text (memory.Working w) = working_text w

abbrev pub source_text : Source → List ℕ
source_text (source.Immediate value) = immediate_text value
source_text (source.Memory m) = memory_text m

abbrev pub place_text : Place → List ℕ
place_text place.Accumulator = codes "A"
place_text (place.Memory m) = memory_text m

abbrev pub mask_text : Mask → List ℕ
mask_text mask.Accumulator = codes "A"
mask_text (mask.Immediate value) = immediate_text value

abbrev pub comparison_text : Comparison → List ℕ
comparison_text (comparison.AccumulatorImmediate value) = codes "A," ++ immediate_text value
comparison_text (comparison.AccumulatorDirect direct) = codes "A," ++ byte_text direct
comparison_text (comparison.WorkingImmediate w value) = working_text w ++ codes "," ++ immediate_text value

abbrev pub counter_text : Counter → List ℕ
counter_text (counter.Direct direct) = byte_text direct
counter_text (counter.Register n) = register_text n

abbrev pub external_text : External → List ℕ
external_text external.DataPointer = codes "@DPTR"
external_text (external.Indirect i) = pointer_text i

-- where an instruction at an address goes
abbrev pub address_text : Option ℕ → List ℕ
address_text None = []
address_text (Some target) = word_text target

abbrev pub target_text : ℕ → Instr → List ℕ
target_text pc instr = address_text (target_of pc instr)

-- an instruction at an address
abbrev pub text_of : ℕ → Instr → List ℕ
text_of pc Nop = codes "NOP"
text_of pc (AbsoluteJump target) = codes "AJMP " ++ target_text pc (AbsoluteJump target)
text_of pc (AbsoluteCall target) = codes "ACALL " ++ target_text pc (AbsoluteCall target)
text_of pc (LongJump target) = codes "LJMP " ++ target_text pc (LongJump target)
text_of pc (LongCall target) = codes "LCALL " ++ target_text pc (LongCall target)
text_of pc Return = codes "RET"
text_of pc ReturnFromInterrupt = codes "RETI"
text_of pc JumpIndirect = codes "JMP @A+DPTR"
text_of pc (JumpOn when rel) = condition_text when ++ target_text pc (JumpOn when rel)
text_of pc (JumpOnBit kind address rel) =
    test_text kind ++ byte_text address ++ codes "," ++ target_text pc (JumpOnBit kind address rel)
text_of pc (CompareJump compared rel) =
    codes "CJNE " ++ comparison_text compared ++ codes "," ++ target_text pc (CompareJump compared rel)
text_of pc (DecrementJump counted rel) =
    codes "DJNZ " ++ counter_text counted ++ codes "," ++ target_text pc (DecrementJump counted rel)
text_of pc (ChangeAccumulator does) = accumulator_text does
text_of pc (Increment changed) = codes "INC " ++ place_text changed
text_of pc (Decrement changed) = codes "DEC " ++ place_text changed
text_of pc IncrementDataPointer = codes "INC DPTR"
text_of pc (Accumulate does with) = operation_text does ++ source_text with
text_of pc (DirectLogic does direct by) = logic_text does ++ byte_text direct ++ codes "," ++ mask_text by
text_of pc Multiply = codes "MUL AB"
text_of pc Divide = codes "DIV AB"
text_of pc (ChangeCarry does) = carry_text does
text_of pc (CarryBit does address) = carry_bit_text does ++ byte_text address
text_of pc (ChangeBit does address) = bit_text does ++ byte_text address ++ bit_end does
text_of pc (MoveImmediate to value) = codes "MOV " ++ place_text to ++ codes "," ++ immediate_text value
text_of pc (MoveToDirect to from) = codes "MOV " ++ byte_text to ++ codes "," ++ memory_text from
text_of pc (MoveFromDirect to from) = codes "MOV " ++ working_text to ++ codes "," ++ byte_text from
text_of pc (LoadDataPointer value) = codes "MOV DPTR,#" ++ word_text value
text_of pc (Load m) = codes "MOV A," ++ memory_text m
text_of pc (Store m) = codes "MOV " ++ memory_text m ++ codes ",A"
text_of pc (MoveCode from) = base_text from
text_of pc (ReadExternal at) = codes "MOVX A," ++ external_text at
text_of pc (WriteExternal at) = codes "MOVX " ++ external_text at ++ codes ",A"
text_of pc (Push direct) = codes "PUSH " ++ byte_text direct
text_of pc (Pop direct) = codes "POP " ++ byte_text direct
text_of pc (Exchange m) = codes "XCH A," ++ memory_text m
text_of pc (ExchangeDigit i) = codes "XCHD A," ++ pointer_text i
