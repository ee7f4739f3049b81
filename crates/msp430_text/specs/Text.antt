-- The text of instructions, in the notation of SLAU049, MSP430x1xx Family User's Guide, chapter 3: hexadecimal numbers
-- have four digits and an h, and symbolic operands and jumps show the address that they reach.
use Rattle.std.specs.Prelude.{ℕ, ◌+◌, ◌*◌, ◌%◌, List, [], ◌++◌, length, codes}
use Rattle.msp430_decode.specs.declared.instr.Register.{Register}
use Rattle.msp430_decode.specs.declared.instr.Register.TheVariants.{Pc, Sp, Sr, R3, R4, R5, R6, R7, R8, R9, R10, R11, R12, R13, R14, R15}
use Rattle.msp430_decode.specs.declared.instr.Operation.{Operation}
use Rattle.msp430_decode.specs.declared.instr.Operation.TheVariants.{Mov, Add, Addc, Subc, Sub, Cmp, Dadd, Bit, Bic, Bis, Xor, And}
use Rattle.msp430_decode.specs.declared.instr.SingleOperation.{SingleOperation}
use Rattle.msp430_decode.specs.declared.instr.SingleOperation.TheVariants.{Rrc, Swpb, Rra, Sxt, Push, Call}
use Rattle.msp430_decode.specs.declared.instr.Condition.{Condition}
use Rattle.msp430_decode.specs.declared.instr.Condition.TheVariants.{NotEqual, Equal, NoCarry, Carry, Negative, GreaterOrEqual, Less, Always}
use Rattle.msp430_decode.specs.declared.instr.Width.{Width}
use Rattle.msp430_decode.specs.declared.instr.Width.TheVariants.{Word, Byte}
use Rattle.msp430_decode.specs.declared.instr.Constant.{Constant}
use Rattle.msp430_decode.specs.declared.instr.Constant.TheVariants.{Zero, One, Two, Four, Eight, MinusOne}
use Rattle.msp430_decode.specs.declared.instr.Source.{Source}
use Rattle.msp430_decode.specs.declared.instr.Source.TheVariants as source
use Rattle.msp430_decode.specs.declared.instr.Destination.{Destination}
use Rattle.msp430_decode.specs.declared.instr.Destination.TheVariants as destination
use Rattle.msp430_decode.specs.declared.instr.Instr.{Instr}
use Rattle.msp430_decode.specs.declared.instr.Instr.TheVariants.{Double, Single, Jump, ReturnFromInterrupt}
use Rattle.msp430_decode.specs.Operands.{source_words}
use Rattle.msp430_decode.specs.Table.{target_of}
use Rattle.hex_digits.specs.Digits.{word_text}

abbrev pub register_text : Register → List ℕ
register_text Pc = codes "PC"
register_text Sp = codes "SP"
register_text Sr = codes "SR"
register_text R3 = codes "R3"
register_text R4 = codes "R4"
register_text R5 = codes "R5"
register_text R6 = codes "R6"
register_text R7 = codes "R7"
register_text R8 = codes "R8"
register_text R9 = codes "R9"
register_text R10 = codes "R10"
register_text R11 = codes "R11"
register_text R12 = codes "R12"
register_text R13 = codes "R13"
register_text R14 = codes "R14"
register_text R15 = codes "R15"

abbrev pub operation_text : Operation → List ℕ
operation_text Mov = codes "MOV"
operation_text Add = codes "ADD"
operation_text Addc = codes "ADDC"
operation_text Subc = codes "SUBC"
operation_text Sub = codes "SUB"
operation_text Cmp = codes "CMP"
operation_text Dadd = codes "DADD"
operation_text Bit = codes "BIT"
operation_text Bic = codes "BIC"
operation_text Bis = codes "BIS"
operation_text Xor = codes "XOR"
operation_text And = codes "AND"

abbrev pub single_text : SingleOperation → List ℕ
single_text Rrc = codes "RRC"
single_text Swpb = codes "SWPB"
single_text Rra = codes "RRA"
single_text Sxt = codes "SXT"
single_text Push = codes "PUSH"
single_text Call = codes "CALL"

abbrev pub condition_text : Condition → List ℕ
condition_text NotEqual = codes "JNE"
condition_text Equal = codes "JEQ"
condition_text NoCarry = codes "JNC"
condition_text Carry = codes "JC"
condition_text Negative = codes "JN"
condition_text GreaterOrEqual = codes "JGE"
condition_text Less = codes "JL"
condition_text Always = codes "JMP"

-- byte forms have a suffix
abbrev pub width_text : Width → List ℕ
width_text Word = []
width_text Byte = codes ".B"

-- a generated constant is told from an immediate, which has four digits
abbrev pub constant_text : Constant → List ℕ
constant_text Zero = codes "#0"
constant_text One = codes "#1"
constant_text Two = codes "#2"
constant_text Four = codes "#4"
constant_text Eight = codes "#8"
constant_text MinusOne = codes "#-1"

-- memory at a register plus a number
abbrev pub indexed_text : Register → ℕ → List ℕ
indexed_text register offset = word_text offset ++ codes "(" ++ register_text register ++ codes ")"

-- memory at a number plus the address of its extension word
abbrev pub symbolic_text : ℕ → ℕ → List ℕ
symbolic_text at offset = word_text ((at + offset) % 65536)

-- a source whose extension word, if it has one, stands at an address
abbrev pub source_text : ℕ → Source → List ℕ
source_text at (source.Register register) = register_text register
source_text at (source.Indexed register offset) = indexed_text register offset
source_text at (source.Indirect register) = codes "@" ++ register_text register
source_text at (source.IndirectIncrement register) = codes "@" ++ register_text register ++ codes "+"
source_text at (source.Immediate value) = codes "#" ++ word_text value
source_text at (source.Symbolic offset) = symbolic_text at offset
source_text at (source.Absolute address) = codes "&" ++ word_text address
source_text at (source.Constant constant) = constant_text constant

-- the same for a destination
abbrev pub destination_text : ℕ → Destination → List ℕ
destination_text at (destination.Register register) = register_text register
destination_text at (destination.Indexed register offset) = indexed_text register offset
destination_text at (destination.Symbolic offset) = symbolic_text at offset
destination_text at (destination.Absolute address) = codes "&" ++ word_text address

-- an instruction at an address: the source's extension word stands behind the first word, and the destination's behind
-- the source's; addresses wrap at 16 bits
abbrev pub text_of : ℕ → Instr → List ℕ
text_of pc (Double operation width source destination) =
    operation_text operation ++ width_text width ++ codes " " ++ source_text ((pc + 2) % 65536) source ++ codes ","
    ++ destination_text ((pc + (2 + 2 * length (source_words source))) % 65536) destination
text_of pc (Single operation width operand) = single_text operation ++ width_text width ++ codes " "
    ++ source_text ((pc + 2) % 65536) operand
text_of pc (Jump condition offset) = condition_text condition ++ codes " " ++ word_text (target_of pc offset)
text_of pc ReturnFromInterrupt = codes "RETI"
