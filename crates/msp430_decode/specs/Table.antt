-- The instruction table (SLAU049, chapter 3, "Instruction Set": the formats I and II and the jumps).
use Rattle.std.specs.Prelude.{ℕ, ◌≡◌, ◌<◌, ◌+◌, ◌*◌, ◌/◌, ◌%◌, ◌-◌, nat_lt, if◌then◌else◌, Option, None, Some, List, [], ◌∷◌, ◌++◌, length}
use Rattle.std.specs.List.{flat_map}
use Rattle.msp430_decode.specs.declared.instr.Width.{Width}
use Rattle.msp430_decode.specs.declared.instr.Width.TheVariants.{Word, Byte}
use Rattle.msp430_decode.specs.declared.instr.Source.{Source}
use Rattle.msp430_decode.specs.declared.instr.Source.TheVariants.{Immediate, Constant}
use Rattle.msp430_decode.specs.declared.instr.SingleOperation.{SingleOperation}
use Rattle.msp430_decode.specs.declared.instr.SingleOperation.TheVariants.{Rrc, Swpb, Rra, Sxt, Push, Call}
use Rattle.msp430_decode.specs.declared.instr.Instr.{Instr}
use Rattle.msp430_decode.specs.declared.instr.Instr.TheVariants.{Double, Single, Jump, ReturnFromInterrupt}
use Rattle.msp430_decode.specs.Codes.{number, operation_code, single_code, condition_code, width_code}
use Rattle.msp430_decode.specs.Operands.{IsSource, IsDestination, source_register, source_mode, source_words, destination_register, destination_mode, destination_words}

-- a result isn't written to a constant
abbrev pub IsWritable : Source → Type 0
IsWritable (Immediate value) = ⊥
IsWritable (Constant constant) = ⊥
IsWritable operand = Unit {0}

abbrev pub IsWord : Width → Type 0
IsWord Word = Unit {0}
IsWord Byte = ⊥

-- SWPB, SXT and CALL have no byte form; RRC, SWPB, RRA and SXT write their operand back
abbrev pub AreSingle : SingleOperation → Width → Source → Type 0
AreSingle Rrc width operand = IsWritable operand
AreSingle Swpb width operand = IsWord width × IsWritable operand
AreSingle Rra width operand = IsWritable operand
AreSingle Sxt width operand = IsWord width × IsWritable operand
AreSingle Push width operand = Unit {0}
AreSingle Call width operand = IsWord width

-- the instructions that there are
abbrev pub IsInstr : Instr → Type 0
IsInstr (Double operation width source destination) = IsSource source × IsDestination destination
IsInstr (Single operation width operand) = IsSource operand × AreSingle operation width operand
IsInstr (Jump condition offset) = offset < 1024
IsInstr ReturnFromInterrupt = Unit {0}

-- the first word:
-- format I, bits 15 to 12 the code, 11 to 8 the source's register, 7 Ad, 6 B/W, 5 to 4 As, 3 to 0 the destination's register;
-- format II, bits 15 to 10 are 000100, 9 to 7 the code, 6 B/W, 5 to 4 As, 3 to 0 the register, and RETI is 1300h;
-- jumps, bits 15 to 13 are 001, 12 to 10 the condition, 9 to 0 the offset
abbrev pub first_word : Instr → ℕ
first_word (Double operation width source destination) =
    operation_code operation * 4096 + number (source_register source) * 256 + destination_mode destination * 128
    + width_code width * 64 + source_mode source * 16 + number (destination_register destination)
first_word (Single operation width operand) =
    4096 + single_code operation * 128 + width_code width * 64 + source_mode operand * 16 + number (source_register operand)
first_word (Jump condition offset) = 8192 + condition_code condition * 1024 + offset
first_word ReturnFromInterrupt = 0x1300

-- the extension words, that of the source before that of the destination
abbrev pub extension_words : Instr → List ℕ
extension_words (Double operation width source destination) = source_words source ++ destination_words destination
extension_words (Single operation width operand) = source_words operand
extension_words (Jump condition offset) = []
extension_words ReturnFromInterrupt = []

-- a word has its low byte at the lower address
abbrev pub word_bytes : ℕ → List ℕ
word_bytes word = (word % 256) ∷ (word / 256) ∷ []

-- the bytes of an instruction
abbrev pub bytes_of : Instr → List ℕ
bytes_of instr = word_bytes (first_word instr) ++ flat_map word_bytes (extension_words instr)

-- these bytes are this instruction
abbrev pub Row : List ℕ → Instr → Type 0
Row bytes instr = IsInstr instr × (bytes ≡ bytes_of instr)

-- the number of its bytes
abbrev pub length_of : Instr → ℕ
length_of instr = 2 + 2 * length (extension_words instr)

-- a jump goes on from the following address, by twice its offset, which is signed; addresses wrap at 16 bits
abbrev pub target_of : ℕ → ℕ → ℕ
target_of pc offset = if nat_lt offset 512 then (pc + 2 + 2 * offset) % 65536 else (pc + 2 + 2 * offset + 65536 - 2048) % 65536

-- where an instruction at an address jumps, if it is a jump
abbrev pub jump_target : ℕ → Instr → Option ℕ
jump_target pc (Jump condition offset) = Some (target_of pc offset)
jump_target pc other = None
