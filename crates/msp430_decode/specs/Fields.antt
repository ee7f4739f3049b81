-- The instruction of a first word that isn't excluded and its extension words, field by field.
use Rattle.std.specs.Prelude.{ℕ, ◌/◌, ◌%◌, ◌==◌, nat_lt, if◌then◌else◌, Bool, true, false}
use Rattle.msp430_decode.specs.declared.instr.Register.{Register}
use Rattle.msp430_decode.specs.declared.instr.Register.TheVariants.{Pc, Sr, R3}
use Rattle.msp430_decode.specs.declared.instr.Constant.TheVariants.{Zero, One, Two, Four, Eight, MinusOne}
use Rattle.msp430_decode.specs.declared.instr.Source.{Source}
use Rattle.msp430_decode.specs.declared.instr.Source.TheVariants as source
use Rattle.msp430_decode.specs.declared.instr.Destination.{Destination}
use Rattle.msp430_decode.specs.declared.instr.Destination.TheVariants as destination
use Rattle.msp430_decode.specs.declared.instr.Instr.{Instr}
use Rattle.msp430_decode.specs.declared.instr.Instr.TheVariants.{Double, Single, Jump, ReturnFromInterrupt}
use Rattle.msp430_decode.specs.Codes.{register_at, operation_at, single_at, condition_at, width_at}

-- As 0
abbrev pub plain_source : Register → Source
plain_source R3 = source.Constant Zero
plain_source register = source.Register register

-- As 1
abbrev pub indexed_source : Register → ℕ → Source
indexed_source Pc word = source.Symbolic word
indexed_source Sr word = source.Absolute word
indexed_source R3 word = source.Constant One
indexed_source register word = source.Indexed register word

-- As 2
abbrev pub indirect_source : Register → Source
indirect_source Sr = source.Constant Four
indirect_source R3 = source.Constant Two
indirect_source register = source.Indirect register

-- As 3
abbrev pub increment_source : Register → ℕ → Source
increment_source Pc word = source.Immediate word
increment_source Sr word = source.Constant Eight
increment_source R3 word = source.Constant MinusOne
increment_source register word = source.IndirectIncrement register

abbrev pub source_of : ℕ → Register → ℕ → Source
source_of mode register word =
    if mode == 0 then plain_source register
    else if mode == 1 then indexed_source register word
    else if mode == 2 then indirect_source register
    else increment_source register word

abbrev pub takes_word : Source → Bool
takes_word (source.Indexed register offset) = true
takes_word (source.Immediate value) = true
takes_word (source.Symbolic offset) = true
takes_word (source.Absolute address) = true
takes_word other = false

-- Ad 1
abbrev pub indexed_destination : Register → ℕ → Destination
indexed_destination Pc word = destination.Symbolic word
indexed_destination Sr word = destination.Absolute word
indexed_destination register word = destination.Indexed register word

abbrev pub destination_of : ℕ → Register → ℕ → Destination
destination_of mode register word =
    if mode == 0 then destination.Register register else indexed_destination register word

-- format I: the destination has the second extension word where the source has the first
unfoldable pub double_of : ℕ → ℕ → ℕ → Instr
double_of word first second =
    let operand = source_of (word / 16 % 4) (register_at (word / 256 % 16)) first in
    let rest = if takes_word operand then second else first in
    Double (operation_at (word / 4096)) (width_at (word / 64 % 2)) operand (destination_of (word / 128 % 2) (register_at (word % 16)) rest)

-- format II
unfoldable pub single_of : ℕ → ℕ → Instr
single_of word first =
    if word == 0x1300 then ReturnFromInterrupt
    else Single (single_at (word / 128 % 8)) (width_at (word / 64 % 2)) (source_of (word / 16 % 4) (register_at (word % 16)) first)

unfoldable pub jump_of : ℕ → Instr
jump_of word = Jump (condition_at (word / 1024 % 8)) (word % 1024)

unfoldable pub instr_of : ℕ → ℕ → ℕ → Instr
instr_of word first second =
    if nat_lt word 0x2000 then single_of word first
    else if nat_lt word 0x4000 then jump_of word
    else double_of word first second
