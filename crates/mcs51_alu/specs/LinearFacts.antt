-- What the accumulator is by a byte of RAM (G. Balakrishnan and T. Reps, "WYSINWYX: What You See Is Not What You eXecute", 2010:
-- affine relations): a factor times the byte plus a number, modulo 256.
use Rattle.std.specs.Prelude.{ℕ, ◌+◌, ◌*◌, ◌%◌, ◌==◌, if◌then◌else◌, Option, None, Some, option_map, [], ◌∷◌, map}
use Rattle.entry_value.specs.declared.byte.Byte.{Byte}
use Rattle.value_set.specs.declared.form.Form.{Form}
use Rattle.value_set.specs.declared.form.Form.TheVariants.{Values, Run}
use Rattle.value_set.specs.Form.{gather, members}
use Rattle.value_set.specs.Summing.{single}
use Rattle.mcs51_decode.specs.declared.instr.Operation.{Operation}
use Rattle.mcs51_decode.specs.declared.instr.Operation.TheVariants.{Add, Addc, Orl, Anl, Xrl, Subb}
use Rattle.mcs51_decode.specs.declared.instr.Source.{Source}
use Rattle.mcs51_decode.specs.declared.instr.Source.TheVariants as source
use Rattle.mcs51_state.specs.declared.addresses.Addresses.{Addresses}
use Rattle.mcs51_state.specs.declared.addresses.Addresses.TheVariants.{InRam, InSfr}
use Rattle.mcs51_state.specs.declared.fact.LinearFact.{LinearFact}
use Rattle.mcs51_state.specs.Known.{Known, byte_of}
use Rattle.mcs51_state.specs.Operands.{addresses_of}
use Rattle.mcs51_state.specs.Reading.{ram_values}

-- THE BYTE

-- the only number of a set, if it has one alone
abbrev pub only_of : Form → Option ℕ
only_of (Values []) = None
only_of (Values (at ∷ [])) = Some at
only_of (Values (at ∷ next ∷ rest)) = None
only_of (Run p) = None

-- the only byte of RAM that an operand may be
abbrev pub only_address : Addresses → Option ℕ
only_address (InRam set) = only_of set
only_address (InSfr register) = None

-- FACTS

-- behind a move of a byte it is the byte
abbrev pub whole : ℕ → LinearFact
whole at = record { place = at; factor = 1; added = 0 }

abbrev pub loaded_fact : Addresses → Option LinearFact
loaded_fact addresses = option_map whole (only_address addresses)

-- ADD of a number, and of the byte itself
abbrev pub raised_by : ℕ → LinearFact → LinearFact
raised_by value fact = record { place = fact.place; factor = fact.factor; added = (fact.added + value) % 256 }

abbrev pub once_more : LinearFact → LinearFact
once_more fact = record { place = fact.place; factor = (fact.factor + 1) % 256; added = fact.added }

abbrev pub with_byte : Option ℕ → LinearFact → Option LinearFact
with_byte None fact = None
with_byte (Some at) fact = if at == fact.place then Some (once_more fact) else None

abbrev pub fact_with : Known → Source → LinearFact → Option LinearFact
fact_with a (source.Immediate value) fact = Some (raised_by value fact)
fact_with a (source.Memory m) fact = with_byte (only_address (addresses_of a m)) fact

abbrev pub fact_behind : Known → Source → Option LinearFact → Option LinearFact
fact_behind a origin None = None
fact_behind a origin (Some fact) = fact_with a origin fact

abbrev pub added_fact : Operation → Known → Source → Option LinearFact
added_fact Add a origin = fact_behind a origin a.linear_fact
added_fact Addc a origin = None
added_fact Orl a origin = None
added_fact Anl a origin = None
added_fact Xrl a origin = None
added_fact Subb a origin = None

-- THE ACCUMULATOR BY ITS FACT

abbrev pub linear_value : LinearFact → ℕ → ℕ
linear_value fact v = (fact.factor * v + fact.added) % 256

unfoldable pub linear_values : Known → LinearFact → Form
linear_values a fact = gather 256 (map (linear_value fact) (members 256 (ram_values a (single fact.place))))

-- where a fact stands, the accumulator is gathered from the byte
abbrev pub gathered_by : Known → Option LinearFact → Byte → Byte
gathered_by a None byte = byte
gathered_by a (Some fact) byte = byte_of (linear_values a fact)
