-- What instructions that write the accumulator make of what is known of a state (Intel, MCS-51 Programmer's Guide and Instruction
-- Set: MOV, ADD, ADDC, SUBB, ORL, ANL, XRL, INC and DEC of A, and the operations on A alone).
use Rattle.std.specs.Prelude.{◌≡◌, ℕ, ◌==◌, if◌then◌else◌, Bool, true, false, Option, None, List, []}
use Rattle.call_context.specs.declared.shown.Item.{Item}
use Rattle.entry_value.specs.declared.byte.Byte.{Byte}
use Rattle.value_set.specs.Summing.{single}
use Rattle.mcs51_decode.specs.declared.instr.AccumulatorOperation.{AccumulatorOperation}
use Rattle.mcs51_decode.specs.declared.instr.AccumulatorOperation.TheVariants.{Da, Rlc, Rrc}
use Rattle.mcs51_decode.specs.declared.instr.Memory.{Memory}
use Rattle.mcs51_decode.specs.declared.instr.Memory.TheVariants.{Direct, Working}
use Rattle.mcs51_decode.specs.declared.instr.Operation.{Operation}
use Rattle.mcs51_decode.specs.declared.instr.Operation.TheVariants.{Add, Addc, Subb}
use Rattle.mcs51_decode.specs.declared.instr.Source.{Source}
use Rattle.mcs51_decode.specs.declared.instr.Source.TheVariants as source
use Rattle.mcs51_chip.specs.declared.state.ChipState.{ChipState}
use Rattle.mcs51_chip.specs.Leading.{MayRead}
use Rattle.mcs51_chip.specs.Memory.{address_of}
use Rattle.mcs51_state.specs.declared.fact.CarryFact.{CarryFact}
use Rattle.mcs51_state.specs.declared.fact.LinearFact.{LinearFact}
use Rattle.mcs51_state.specs.Known.{Known, byte_of}
use Rattle.mcs51_state.specs.Operands.{addresses_of}
use Rattle.mcs51_state.specs.Reading.{read_byte}
use Rattle.mcs51_state.specs.Accesses.{read_items}
use Rattle.mcs51_results.specs.declared.made.Made.{Made}
use Rattle.mcs51_results.specs.declared.made.Operand.{Operand}
use Rattle.mcs51_results.specs.declared.made.Operand.TheVariants.{Constant, Among}
use Rattle.mcs51_results.specs.Results.{accumulated_made, changed_made, decreased, increased, twice_made}
use Rattle.mcs51_state.specs.Writing.{carry_unless, is_accumulator}
use Rattle.mcs51_alu.specs.LinearFacts.{added_fact, gathered_by, loaded_fact}

-- WHAT IS LEFT OF FACTS

-- an instruction that sets CY drops its fact, and every write of the accumulator one of the accumulator
abbrev pub carry_left : (sets_carry : Bool) → Option CarryFact → Option CarryFact
carry_left true fact = None
carry_left false fact = carry_unless is_accumulator fact

abbrev pub with_made : Made → (sets_carry : Bool) → Option LinearFact → Known → Known
with_made made sets_carry fact a =
    record a { a = made.a; psw = made.psw; linear_fact = fact; carry_fact = carry_left sets_carry a.carry_fact }

-- the accumulator alone is written
abbrev pub with_byte : Byte → Option LinearFact → Known → Known
with_byte byte fact a = with_made (record { a = byte; psw = a.psw }) false fact a

-- MOV, INC AND DEC

unfoldable pub loaded : (framed : Bool) → Memory → Known → Known
loaded framed m a = with_byte (read_byte framed a (addresses_of a m)) (loaded_fact (addresses_of a m)) a

unfoldable pub immediate : ℕ → Known → Known
immediate value a = with_byte (byte_of (single value)) None a

unfoldable pub counted : (up : Bool) → Known → Known
counted up a = with_byte (if up then increased a.a else decreased a.a) None a

-- THE ACCUMULATOR AND A BYTE

abbrev pub operand_of : (framed : Bool) → Known → Source → Operand
operand_of framed a (source.Immediate value) = Constant value
operand_of framed a (source.Memory m) = Among (read_byte framed a (addresses_of a m)).set

-- ACC as the byte
abbrev pub is_itself : Source → Bool
is_itself (source.Immediate value) = false
is_itself (source.Memory (Direct direct)) = direct == 0xE0
is_itself (source.Memory (Working w)) = false

abbrev pub sets_carry : Operation → Bool
sets_carry Add = true
sets_carry Addc = true
sets_carry Subb = true
sets_carry other = false

abbrev pub is_add : Operation → Bool
is_add Add = true
is_add other = false

-- ADD of the accumulator to itself doubles it
abbrev pub made_of : (framed : Bool) → Operation → Source → Known → Made
made_of framed done origin a =
    if is_itself origin then if is_add done then twice_made a.a a.psw else accumulated_made done a.a (operand_of framed a origin) a.psw
    else accumulated_made done a.a (operand_of framed a origin) a.psw

abbrev pub gathered_made : Known → Option LinearFact → Made → Made
gathered_made a fact made = record { a = gathered_by a fact made.a; psw = made.psw }

unfoldable pub accumulated_known : (framed : Bool) → Operation → Source → Known → Known
accumulated_known framed done origin a =
    with_made (gathered_made a (added_fact done a origin) (made_of framed done origin a)) (sets_carry done) (added_fact done a origin) a

-- THE ACCUMULATOR ALONE

abbrev pub changes_carry : AccumulatorOperation → Bool
changes_carry Rrc = true
changes_carry Rlc = true
changes_carry Da = true
changes_carry other = false

unfoldable pub changed_known : AccumulatorOperation → Known → Known
changed_known done a = with_made (changed_made done a.a a.psw) (changes_carry done) None a

-- WHAT THE CHIP READS

-- the number of a source
abbrev pub MayBe : ChipState → Source → ℕ → Type 0
MayBe s (source.Immediate value) x = x ≡ value
MayBe s (source.Memory m) x = MayRead s (address_of s m) x

-- WHAT IS SHOWN

-- the accesses to a source
abbrev pub source_items : (pc : ℕ) → Known → Source → List Item
source_items pc a (source.Immediate value) = []
source_items pc a (source.Memory m) = read_items pc a m
