-- The codes of an instruction's fields (SLAU049, MSP430x1xx Family User's Guide, chapter 3, "RISC 16-Bit CPU").
use Rattle.std.specs.Prelude.{ℕ, ◌==◌, if◌then◌else◌}
use Rattle.msp430_decode.specs.declared.instr.Register.{Register}
use Rattle.msp430_decode.specs.declared.instr.Register.TheVariants.{Pc, Sp, Sr, R3, R4, R5, R6, R7, R8, R9, R10, R11, R12, R13, R14, R15}
use Rattle.msp430_decode.specs.declared.instr.Operation.{Operation}
use Rattle.msp430_decode.specs.declared.instr.Operation.TheVariants.{Mov, Add, Addc, Subc, Sub, Cmp, Dadd, Bit, Bic, Bis, Xor, And}
use Rattle.msp430_decode.specs.declared.instr.SingleOperation.{SingleOperation}
use Rattle.msp430_decode.specs.declared.instr.SingleOperation.TheVariants.{Rrc, Swpb, Rra, Sxt, Push, Call}
use Rattle.msp430_decode.specs.declared.instr.Condition.{Condition}
use Rattle.msp430_decode.specs.declared.instr.Condition.TheVariants.{NotEqual, Equal, NoCarry, Carry, Negative, GreaterOrEqual, Less, Always}
use Rattle.msp430_decode.specs.declared.instr.Width.{Width}
use Rattle.msp430_decode.specs.declared.instr.Width.TheVariants.{Word, Byte}

-- R0 is PC, R1 is SP, R2 is SR
abbrev pub number : Register → ℕ
number Pc = 0
number Sp = 1
number Sr = 2
number R3 = 3
number R4 = 4
number R5 = 5
number R6 = 6
number R7 = 7
number R8 = 8
number R9 = 9
number R10 = 10
number R11 = 11
number R12 = 12
number R13 = 13
number R14 = 14
number R15 = 15

-- the register with a number
abbrev pub register_at : ℕ → Register
register_at n =
    if n == 0 then Pc
    else if n == 1 then Sp
    else if n == 2 then Sr
    else if n == 3 then R3
    else if n == 4 then R4
    else if n == 5 then R5
    else if n == 6 then R6
    else if n == 7 then R7
    else if n == 8 then R8
    else if n == 9 then R9
    else if n == 10 then R10
    else if n == 11 then R11
    else if n == 12 then R12
    else if n == 13 then R13
    else if n == 14 then R14
    else R15

-- format I, bits 15 to 12
abbrev pub operation_code : Operation → ℕ
operation_code Mov = 4
operation_code Add = 5
operation_code Addc = 6
operation_code Subc = 7
operation_code Sub = 8
operation_code Cmp = 9
operation_code Dadd = 10
operation_code Bit = 11
operation_code Bic = 12
operation_code Bis = 13
operation_code Xor = 14
operation_code And = 15

-- the operation with a code
abbrev pub operation_at : ℕ → Operation
operation_at n =
    if n == 4 then Mov
    else if n == 5 then Add
    else if n == 6 then Addc
    else if n == 7 then Subc
    else if n == 8 then Sub
    else if n == 9 then Cmp
    else if n == 10 then Dadd
    else if n == 11 then Bit
    else if n == 12 then Bic
    else if n == 13 then Bis
    else if n == 14 then Xor
    else And

-- format II, bits 9 to 7; code 6 is RETI
abbrev pub single_code : SingleOperation → ℕ
single_code Rrc = 0
single_code Swpb = 1
single_code Rra = 2
single_code Sxt = 3
single_code Push = 4
single_code Call = 5

-- the operation on one operand with a code
abbrev pub single_at : ℕ → SingleOperation
single_at n =
    if n == 0 then Rrc
    else if n == 1 then Swpb
    else if n == 2 then Rra
    else if n == 3 then Sxt
    else if n == 4 then Push
    else Call

-- jumps, bits 12 to 10
abbrev pub condition_code : Condition → ℕ
condition_code NotEqual = 0
condition_code Equal = 1
condition_code NoCarry = 2
condition_code Carry = 3
condition_code Negative = 4
condition_code GreaterOrEqual = 5
condition_code Less = 6
condition_code Always = 7

-- the condition with a code
abbrev pub condition_at : ℕ → Condition
condition_at n =
    if n == 0 then NotEqual
    else if n == 1 then Equal
    else if n == 2 then NoCarry
    else if n == 3 then Carry
    else if n == 4 then Negative
    else if n == 5 then GreaterOrEqual
    else if n == 6 then Less
    else Always

-- B/W, bit 6
abbrev pub width_code : Width → ℕ
width_code Word = 0
width_code Byte = 1

-- the width with a code
abbrev pub width_at : ℕ → Width
width_at n =
    if n == 0 then Word
    else Byte
