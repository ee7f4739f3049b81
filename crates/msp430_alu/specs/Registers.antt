-- The registers in what is known of a state: what they may hold as operands, and what is known behind a write.
use Rattle.std.specs.Prelude.{◌≡◌, ℕ, ◌+◌, ◌-◌, ◌/◌, ◌%◌, ◌<◌, ◌==◌, if◌then◌else◌, Option, None, Some, List, ◌++◌, bit_and, bit_or, length, replicate, slice_index, slice_set, All}
use Rattle.entry_value.specs.declared.word.Entry.{Entry}
use Rattle.entry_value.specs.declared.word.Word.{Word}
use Rattle.value_set.specs.declared.form.Form.{Form}
use Rattle.value_set.specs.declared.form.Form.TheVariants.{Values, Run}
use Rattle.value_set.specs.declared.form.Progression.{Progression}
use Rattle.value_set.specs.Form.{make}
use Rattle.value_set.specs.Joining.{is_within}
use Rattle.value_set.specs.Summing.{single}
use Rattle.value_bits.specs.declared.tri.Logic.TheVariants.{And}
use Rattle.value_bits.specs.declared.tri.Tri.{Tri}
use Rattle.value_bits.specs.declared.tri.Tri.TheVariants.{Either}
use Rattle.value_bits.specs.Bits.{from_bits}
use Rattle.value_bits.specs.Sets.{logic_set}
use Rattle.msp430_decode.specs.declared.instr.Register.{Register}
use Rattle.msp430_decode.specs.declared.instr.Register.TheVariants.{Pc, Sp, Sr, R3}
use Rattle.msp430_decode.specs.Codes.{number}
use Rattle.msp430_state.specs.declared.fact.FlagFact.{FlagFact}
use Rattle.msp430_state.specs.declared.status.Status.{Status}
use Rattle.msp430_state.specs.Known.{Known, even_words, word_of}
use Rattle.msp430_results.specs.declared.flag_bits.FlagBits.{FlagBits}

-- SINGLE STATES ON THE WAY THROUGH AN INSTRUCTION

-- sixteen words, of which SR holds its bits 8 to 0 and R3 nothing
pub record AreRegisters (registers : List ℕ) : Type 0 where
  pub count : length registers ≡ 16
  pub words : All (λ r. r < 65536) registers
  pub even_sp : slice_index registers 1 % 2 ≡ 0
  pub status : slice_index registers 2 < 512
  pub nothing : slice_index registers 3 ≡ 0

-- EVEN NUMBERS

-- the even numbers of a set as they are; of another one by AND
abbrev pub cleared_parts : Form → Form
cleared_parts set = if is_within 65536 set even_words then set else logic_set 16 And set (single 65534)

-- from the first number without bit 0 to the last one
abbrev pub each_second : Progression → Form
each_second p = make 65536 (p.base - p.base % 2) 2 ((p.count + p.base % 2 + 1) / 2)

-- the numbers without bit 0; of a run without gaps they are every second one
abbrev pub even_parts : Form → Form
even_parts (Values xs) = cleared_parts (Values xs)
even_parts (Run p) = if p.stride == 1 then each_second p else cleared_parts (Run p)

-- OPERANDS

-- SR as a word: its bits 9 to 15 may be any
abbrev pub status_set : Status → Form
status_set status = from_bits 16 (status.bits ++ replicate 7 Either)

-- what a register may hold, where PC counts so
abbrev pub register_word : Known → (counted : Form) → Register → Word
register_word a counted Pc = record { set = counted; entry = None }
register_word a counted Sp = record { set = a.sp; entry = None }
register_word a counted Sr = record { set = status_set a.status; entry = a.status.entry }
register_word a counted R3 = record { set = single 0; entry = None }
register_word a counted register = word_of a (number register)

-- SR FROM A WORD

-- A relation to SR stays one. What SR doesn't hold, its bits 9 to 15, is in the AND mask and not in the OR mask.
abbrev pub status_relation : Option Entry → Option Entry
status_relation None = None
status_relation (Some entry) =
    if entry.place == 2 then Some (record { place = 2; and = bit_or entry.and 65024; or = bit_and entry.or 511 }) else None

-- WRITES

-- a fact goes where its register is written
abbrev pub fact_without : ℕ → Option FlagFact → Option FlagFact
fact_without register None = None
fact_without register (Some fact) = if fact.register == register then None else Some fact

-- one of R4 to R15 has another value
abbrev pub with_word : Known → (register : ℕ) → Word → Known
with_word a register word = record a { registers = slice_set a.registers (register - 4) word; fact = fact_without register a.fact }

-- SP has another value, which loses bit 0
abbrev pub with_sp : Known → Form → Known
with_sp a set = record a { sp = even_parts set }

-- a write to PC is a jump, and R3 holds nothing
abbrev pub put_register : Known → Register → Word → Known
put_register a Pc word = a
put_register a Sp word = with_sp a word.set
put_register a Sr word = a
put_register a R3 word = a
put_register a register word = with_word a (number register) word

-- C, Z, N and V are the bits 0, 1, 2 and 8 of SR
abbrev pub put_flags : List Tri → FlagBits → List Tri
put_flags bits flags = slice_set (slice_set (slice_set (slice_set bits 0 flags.carry) 1 flags.zero) 2 flags.negative) 8 flags.overflow

-- Flags that are set drop the relation of SR and the fact.
abbrev pub with_flag_bits : Known → Option FlagBits → Known
with_flag_bits a None = a
with_flag_bits a (Some flags) = record a { status = record { bits = put_flags a.status.bits flags; entry = None }; fact = None }
