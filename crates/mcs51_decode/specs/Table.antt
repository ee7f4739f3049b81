-- The opcode map (Intel, MCS-51 Programmer's Guide and Instruction Set, "Instruction Opcodes in Hexadecimal Order").
--
-- A row is the number of an instruction's bytes, and what they are: x is the byte behind the opcode, and y the next one.
-- The high digit of an opcode is its line and the low one its column, so each of the definitions below has the rows of a
-- column from the top down. Behind each row stand its opcode and its form in the manual.
use Rattle.std.specs.Prelude.{◌≡◌, ℕ, suc, ◌+◌, ◌*◌, ◌/◌, ◌%◌, ◌<◌, ◌==◌, if◌then◌else◌, Bool, false, List, [], ◌∷◌, All, length}
use Rattle.std.specs.List.{slice_index_or}
use Rattle.mcs51_decode.specs.declared.instr.Register.TheVariants as register
use Rattle.mcs51_decode.specs.declared.instr.Pointer.TheVariants as pointer
use Rattle.mcs51_decode.specs.declared.instr.Working.{Working}
use Rattle.mcs51_decode.specs.declared.instr.Working.TheVariants as working
use Rattle.mcs51_decode.specs.declared.instr.Memory.TheVariants as memory
use Rattle.mcs51_decode.specs.declared.instr.Source.TheVariants as source
use Rattle.mcs51_decode.specs.declared.instr.Place.TheVariants as place
use Rattle.mcs51_decode.specs.declared.instr.Operation.TheVariants as operation
use Rattle.mcs51_decode.specs.declared.instr.Logic.TheVariants as logic
use Rattle.mcs51_decode.specs.declared.instr.Mask.TheVariants as mask
use Rattle.mcs51_decode.specs.declared.instr.AccumulatorOperation.TheVariants as accumulator
use Rattle.mcs51_decode.specs.declared.instr.CarryOperation.TheVariants as carry
use Rattle.mcs51_decode.specs.declared.instr.CarryByBit.TheVariants as by_bit
use Rattle.mcs51_decode.specs.declared.instr.BitOperation.TheVariants as bit
use Rattle.mcs51_decode.specs.declared.instr.Condition.TheVariants as condition
use Rattle.mcs51_decode.specs.declared.instr.BitTest.TheVariants as test
use Rattle.mcs51_decode.specs.declared.instr.Comparison.TheVariants as comparison
use Rattle.mcs51_decode.specs.declared.instr.Counter.TheVariants as counter
use Rattle.mcs51_decode.specs.declared.instr.CodeBase.TheVariants as base
use Rattle.mcs51_decode.specs.declared.instr.External.TheVariants as external
use Rattle.mcs51_decode.specs.declared.instr.Instr.{Instr}
use Rattle.mcs51_decode.specs.declared.instr.Instr.TheVariants.{Nop, AbsoluteJump, AbsoluteCall, LongJump, LongCall, Return, ReturnFromInterrupt, JumpIndirect, JumpOn, JumpOnBit, CompareJump, DecrementJump, ChangeAccumulator, Increment, Decrement, IncrementDataPointer, Accumulate, DirectLogic, Multiply, Divide, ChangeCarry, CarryBit, ChangeBit, MoveImmediate, MoveToDirect, MoveFromDirect, LoadDataPointer, Load, Store, MoveCode, ReadExternal, WriteExternal, Push, Pop, Exchange, ExchangeDigit}

-- the opcodes 00 to F0
unfoldable pub column_0 : ℕ → ℕ → ℕ → ℕ × Instr
column_0 line x y =
    if line == 0x0 then (1, Nop)  -- 00 NOP
    else if line == 0x1 then (3, JumpOnBit test.SetAndClear x y)  -- 10 JBC bit,rel
    else if line == 0x2 then (3, JumpOnBit test.Set x y)  -- 20 JB bit,rel
    else if line == 0x3 then (3, JumpOnBit test.Clear x y)  -- 30 JNB bit,rel
    else if line == 0x4 then (2, JumpOn condition.Carry x)  -- 40 JC rel
    else if line == 0x5 then (2, JumpOn condition.NoCarry x)  -- 50 JNC rel
    else if line == 0x6 then (2, JumpOn condition.Zero x)  -- 60 JZ rel
    else if line == 0x7 then (2, JumpOn condition.NotZero x)  -- 70 JNZ rel
    else if line == 0x8 then (2, JumpOn condition.Always x)  -- 80 SJMP rel
    else if line == 0x9 then (3, LoadDataPointer (256 * x + y))  -- 90 MOV DPTR,#d16
    else if line == 0xA then (2, CarryBit by_bit.OrlComplement x)  -- A0 ORL C,/bit
    else if line == 0xB then (2, CarryBit by_bit.AnlComplement x)  -- B0 ANL C,/bit
    else if line == 0xC then (2, Push x)  -- C0 PUSH dir
    else if line == 0xD then (2, Pop x)  -- D0 POP dir
    else if line == 0xE then (1, ReadExternal external.DataPointer)  -- E0 MOVX A,@DPTR
    else (1, WriteExternal external.DataPointer)  -- F0 MOVX @DPTR,A

-- the opcodes 01 to F1: AJMP and ACALL by turns, whose lines have the bits 10 to 8 of the target
unfoldable pub column_1 : ℕ → ℕ → ℕ × Instr
column_1 line x =
    if line % 2 == 0 then (2, AbsoluteJump (line / 2 * 256 + x))  -- 01, 21, .. AJMP a11
    else (2, AbsoluteCall (line / 2 * 256 + x))  -- 11, 31, .. ACALL a11

-- the opcodes 02 to F2
unfoldable pub column_2 : ℕ → ℕ → ℕ → ℕ × Instr
column_2 line x y =
    if line == 0x0 then (3, LongJump (256 * x + y))  -- 02 LJMP a16
    else if line == 0x1 then (3, LongCall (256 * x + y))  -- 12 LCALL a16
    else if line == 0x2 then (1, Return)  -- 22 RET
    else if line == 0x3 then (1, ReturnFromInterrupt)  -- 32 RETI
    else if line == 0x4 then (2, DirectLogic logic.Orl x mask.Accumulator)  -- 42 ORL dir,A
    else if line == 0x5 then (2, DirectLogic logic.Anl x mask.Accumulator)  -- 52 ANL dir,A
    else if line == 0x6 then (2, DirectLogic logic.Xrl x mask.Accumulator)  -- 62 XRL dir,A
    else if line == 0x7 then (2, CarryBit by_bit.Orl x)  -- 72 ORL C,bit
    else if line == 0x8 then (2, CarryBit by_bit.Anl x)  -- 82 ANL C,bit
    else if line == 0x9 then (2, ChangeBit bit.MovCarry x)  -- 92 MOV bit,C
    else if line == 0xA then (2, CarryBit by_bit.Mov x)  -- A2 MOV C,bit
    else if line == 0xB then (2, ChangeBit bit.Cpl x)  -- B2 CPL bit
    else if line == 0xC then (2, ChangeBit bit.Clr x)  -- C2 CLR bit
    else if line == 0xD then (2, ChangeBit bit.Setb x)  -- D2 SETB bit
    else if line == 0xE then (1, ReadExternal (external.Indirect pointer.R0))  -- E2 MOVX A,@R0
    else (1, WriteExternal (external.Indirect pointer.R0))  -- F2 MOVX @R0,A

-- the opcodes 03 to F3
unfoldable pub column_3 : ℕ → ℕ → ℕ → ℕ × Instr
column_3 line x y =
    if line == 0x0 then (1, ChangeAccumulator accumulator.Rr)  -- 03 RR A
    else if line == 0x1 then (1, ChangeAccumulator accumulator.Rrc)  -- 13 RRC A
    else if line == 0x2 then (1, ChangeAccumulator accumulator.Rl)  -- 23 RL A
    else if line == 0x3 then (1, ChangeAccumulator accumulator.Rlc)  -- 33 RLC A
    else if line == 0x4 then (3, DirectLogic logic.Orl x (mask.Immediate y))  -- 43 ORL dir,#d
    else if line == 0x5 then (3, DirectLogic logic.Anl x (mask.Immediate y))  -- 53 ANL dir,#d
    else if line == 0x6 then (3, DirectLogic logic.Xrl x (mask.Immediate y))  -- 63 XRL dir,#d
    else if line == 0x7 then (1, JumpIndirect)  -- 73 JMP @A+DPTR
    else if line == 0x8 then (1, MoveCode base.ProgramCounter)  -- 83 MOVC A,@A+PC
    else if line == 0x9 then (1, MoveCode base.DataPointer)  -- 93 MOVC A,@A+DPTR
    else if line == 0xA then (1, IncrementDataPointer)  -- A3 INC DPTR
    else if line == 0xB then (1, ChangeCarry carry.Cpl)  -- B3 CPL C
    else if line == 0xC then (1, ChangeCarry carry.Clr)  -- C3 CLR C
    else if line == 0xD then (1, ChangeCarry carry.Setb)  -- D3 SETB C
    else if line == 0xE then (1, ReadExternal (external.Indirect pointer.R1))  -- E3 MOVX A,@R1
    else (1, WriteExternal (external.Indirect pointer.R1))  -- F3 MOVX @R1,A

-- the opcodes 04 to F4: the column of A, and of immediate operands
unfoldable pub column_4 : ℕ → ℕ → ℕ → ℕ × Instr
column_4 line x y =
    if line == 0x0 then (1, Increment place.Accumulator)  -- 04 INC A
    else if line == 0x1 then (1, Decrement place.Accumulator)  -- 14 DEC A
    else if line == 0x2 then (2, Accumulate operation.Add (source.Immediate x))  -- 24 ADD A,#d
    else if line == 0x3 then (2, Accumulate operation.Addc (source.Immediate x))  -- 34 ADDC A,#d
    else if line == 0x4 then (2, Accumulate operation.Orl (source.Immediate x))  -- 44 ORL A,#d
    else if line == 0x5 then (2, Accumulate operation.Anl (source.Immediate x))  -- 54 ANL A,#d
    else if line == 0x6 then (2, Accumulate operation.Xrl (source.Immediate x))  -- 64 XRL A,#d
    else if line == 0x7 then (2, MoveImmediate place.Accumulator x)  -- 74 MOV A,#d
    else if line == 0x8 then (1, Divide)  -- 84 DIV AB
    else if line == 0x9 then (2, Accumulate operation.Subb (source.Immediate x))  -- 94 SUBB A,#d
    else if line == 0xA then (1, Multiply)  -- A4 MUL AB
    else if line == 0xB then (3, CompareJump (comparison.AccumulatorImmediate x) y)  -- B4 CJNE A,#d,rel
    else if line == 0xC then (1, ChangeAccumulator accumulator.Swap)  -- C4 SWAP A
    else if line == 0xD then (1, ChangeAccumulator accumulator.Da)  -- D4 DA A
    else if line == 0xE then (1, ChangeAccumulator accumulator.Clr)  -- E4 CLR A
    else (1, ChangeAccumulator accumulator.Cpl)  -- F4 CPL A

-- the opcodes 05 to F5, save A5, which is no instruction's: the column of direct bytes
unfoldable pub column_5 : ℕ → ℕ → ℕ → ℕ × Instr
column_5 line x y =
    if line == 0x0 then (2, Increment (place.Memory (memory.Direct x)))  -- 05 INC dir
    else if line == 0x1 then (2, Decrement (place.Memory (memory.Direct x)))  -- 15 DEC dir
    else if line == 0x2 then (2, Accumulate operation.Add (source.Memory (memory.Direct x)))  -- 25 ADD A,dir
    else if line == 0x3 then (2, Accumulate operation.Addc (source.Memory (memory.Direct x)))  -- 35 ADDC A,dir
    else if line == 0x4 then (2, Accumulate operation.Orl (source.Memory (memory.Direct x)))  -- 45 ORL A,dir
    else if line == 0x5 then (2, Accumulate operation.Anl (source.Memory (memory.Direct x)))  -- 55 ANL A,dir
    else if line == 0x6 then (2, Accumulate operation.Xrl (source.Memory (memory.Direct x)))  -- 65 XRL A,dir
    else if line == 0x7 then (3, MoveImmediate (place.Memory (memory.Direct x)) y)  -- 75 MOV dir,#d
    else if line == 0x8 then (3, MoveToDirect y (memory.Direct x))  -- 85 MOV dir,dir, the source first
    else if line == 0x9 then (2, Accumulate operation.Subb (source.Memory (memory.Direct x)))  -- 95 SUBB A,dir
    else if line == 0xB then (3, CompareJump (comparison.AccumulatorDirect x) y)  -- B5 CJNE A,dir,rel
    else if line == 0xC then (2, Exchange (memory.Direct x))  -- C5 XCH A,dir
    else if line == 0xD then (3, DecrementJump (counter.Direct x) y)  -- D5 DJNZ dir,rel
    else if line == 0xE then (2, Load (memory.Direct x))  -- E5 MOV A,dir
    else (2, Store (memory.Direct x))  -- F5 MOV dir,A

-- the opcodes D6 to DF
abbrev pub line_D : Working → ℕ → ℕ × Instr
line_D (working.Indirect i) x = (1, ExchangeDigit i)  -- D6, D7 XCHD A,@Ri
line_D (working.Register n) x = (2, DecrementJump (counter.Register n) x)  -- D8 to DF DJNZ Rn,rel

-- the opcodes x6 to xF of each line, whose operand w is @R0, @R1 or R0 to R7
unfoldable pub working_columns : ℕ → Working → ℕ → ℕ → ℕ × Instr
working_columns line w x y =
    if line == 0x0 then (1, Increment (place.Memory (memory.Working w)))  -- 0 INC w
    else if line == 0x1 then (1, Decrement (place.Memory (memory.Working w)))  -- 1 DEC w
    else if line == 0x2 then (1, Accumulate operation.Add (source.Memory (memory.Working w)))  -- 2 ADD A,w
    else if line == 0x3 then (1, Accumulate operation.Addc (source.Memory (memory.Working w)))  -- 3 ADDC A,w
    else if line == 0x4 then (1, Accumulate operation.Orl (source.Memory (memory.Working w)))  -- 4 ORL A,w
    else if line == 0x5 then (1, Accumulate operation.Anl (source.Memory (memory.Working w)))  -- 5 ANL A,w
    else if line == 0x6 then (1, Accumulate operation.Xrl (source.Memory (memory.Working w)))  -- 6 XRL A,w
    else if line == 0x7 then (2, MoveImmediate (place.Memory (memory.Working w)) x)  -- 7 MOV w,#d
    else if line == 0x8 then (2, MoveToDirect x (memory.Working w))  -- 8 MOV dir,w
    else if line == 0x9 then (1, Accumulate operation.Subb (source.Memory (memory.Working w)))  -- 9 SUBB A,w
    else if line == 0xA then (2, MoveFromDirect w x)  -- A MOV w,dir
    else if line == 0xB then (3, CompareJump (comparison.WorkingImmediate w x) y)  -- B CJNE w,#d,rel
    else if line == 0xC then (1, Exchange (memory.Working w))  -- C XCH A,w
    else if line == 0xD then line_D w x  -- D XCHD A,@Ri, and DJNZ Rn,rel
    else if line == 0xE then (1, Load (memory.Working w))  -- E MOV A,w
    else (1, Store (memory.Working w))  -- F MOV w,A

-- the operand of the columns 6 to F
abbrev pub working_at : ℕ → Working
working_at column =
    if column == 0x6 then working.Indirect pointer.R0
    else if column == 0x7 then working.Indirect pointer.R1
    else if column == 0x8 then working.Register register.R0
    else if column == 0x9 then working.Register register.R1
    else if column == 0xA then working.Register register.R2
    else if column == 0xB then working.Register register.R3
    else if column == 0xC then working.Register register.R4
    else if column == 0xD then working.Register register.R5
    else if column == 0xE then working.Register register.R6
    else working.Register register.R7

-- the row of a line and a column
unfoldable pub row_in : ℕ → ℕ → ℕ → ℕ → ℕ × Instr
row_in line column x y =
    if column == 0x0 then column_0 line x y
    else if column == 0x1 then column_1 line x
    else if column == 0x2 then column_2 line x y
    else if column == 0x3 then column_3 line x y
    else if column == 0x4 then column_4 line x y
    else if column == 0x5 then column_5 line x y
    else working_columns line (working_at column) x y

-- the row of an opcode, with the two bytes behind it
abbrev pub row_at : ℕ → ℕ → ℕ → ℕ × Instr
row_at opcode x y = row_in (opcode / 16) (opcode % 16) x y

-- the one opcode that is no instruction's
abbrev pub is_excluded : ℕ → Bool
is_excluded opcode = opcode == 0xA5

-- how many bytes the instructions with an opcode have
abbrev pub length_at : ℕ → ℕ
length_at opcode = (row_at opcode 0 0).0

-- a byte behind the opcode, or 0 where the instruction has no such byte
abbrev pub operand : List ℕ → ℕ → ℕ
operand operands i = slice_index_or operands i 0

-- these bytes are this instruction
pub record IsRow (opcode : ℕ) (operands : List ℕ) (instr : Instr) : Type 0 where
  pub are_bytes : All (λ byte. byte < 256) (opcode ∷ operands)
  pub allowed : is_excluded opcode ≡ false
  pub row : row_at opcode (operand operands 0) (operand operands 1) ≡ (suc (length operands), instr)

abbrev pub Row : List ℕ → Instr → Type 0
Row [] instr = ⊥
Row (opcode ∷ operands) instr = IsRow opcode operands instr
