-- What CMP and SUB with a constant leave as a fact of the flags (SLAU049, chapter 3, "CMP" and "SUB": both set the flags of
-- destination - source, and SUB writes the difference).
use Rattle.std.specs.Prelude.{ℕ, ◌%◌, if◌then◌else◌, Bool, true, Option, None, Some}
use Rattle.entry_value.specs.Cells.{any_of}
use Rattle.value_set.specs.declared.form.Form.{Form}
use Rattle.value_set.specs.Joining.{is_within}
use Rattle.msp430_decode.specs.declared.instr.Destination.{Destination}
use Rattle.msp430_decode.specs.declared.instr.Destination.TheVariants as destination
use Rattle.msp430_decode.specs.declared.instr.Operation.{Operation}
use Rattle.msp430_decode.specs.declared.instr.Operation.TheVariants.{Cmp, Sub}
use Rattle.msp430_decode.specs.declared.instr.Register.{Register}
use Rattle.msp430_decode.specs.declared.instr.Register.TheVariants.{Pc, Sp, Sr, R3}
use Rattle.msp430_decode.specs.declared.instr.Source.{Source}
use Rattle.msp430_decode.specs.declared.instr.Source.TheVariants as source
use Rattle.msp430_decode.specs.declared.instr.Width.{Width}
use Rattle.msp430_decode.specs.declared.instr.Width.TheVariants.{Word, Byte}
use Rattle.msp430_decode.specs.Codes.{number}
use Rattle.msp430_decode.specs.Operands.{constant_value}
use Rattle.msp430_chip.specs.Arithmetic.{modulus}
use Rattle.msp430_state.specs.declared.fact.FlagFact.{FlagFact}
use Rattle.msp430_state.specs.Known.{Known, word_of}

-- the number that a source is, if it is one: an immediate, or a generated constant
abbrev pub constant_of : Source → Option ℕ
constant_of (source.Immediate value) = Some value
constant_of (source.Constant constant) = Some (constant_value constant)
constant_of other = None

-- R4 to R15
abbrev pub general_number : Register → Option ℕ
general_number Pc = None
general_number Sp = None
general_number Sr = None
general_number R3 = None
general_number register = Some (number register)

-- which of R4 to R15 a destination is, if it is one
abbrev pub compared_register : Destination → Option ℕ
compared_register (destination.Register register) = general_number register
compared_register other = None

-- a fact of bytes is kept only of a register whose high byte is 0
abbrev pub is_told : Width → Form → Bool
is_told Word set = true
is_told Byte set = is_within 65536 set (any_of 1)

-- the flags are those of comparing a register, plus a number, with a constant
abbrev pub fact_of : Known → Width → (compared : Option ℕ) → (register : Option ℕ) → (added : ℕ → ℕ) → Option FlagFact
fact_of a width None register added = None
fact_of a width (Some n) None added = None
fact_of a width (Some n) (Some register) added =
    if is_told width (word_of a register).set
    then Some (record { register = register; added = added (n % modulus width); compared = n % modulus width; width = width })
    else None

-- The fact behind an instruction, where all else of what is known behind it is given. CMP leaves the register that it
-- compares, and SUB leaves it less by the constant. Other instructions set no fact of their own.
abbrev pub fact_behind : Operation → Width → Source → Destination → Known → Option FlagFact
fact_behind Cmp width origin target behind = fact_of behind width (constant_of origin) (compared_register target) (λ n. 0)
fact_behind Sub width origin target behind = fact_of behind width (constant_of origin) (compared_register target) (λ n. n)
fact_behind other width origin target behind = behind.fact
