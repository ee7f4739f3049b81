-- What the flags say of a register: CMP and SUB with a constant leave such a fact.
use Rattle.std.specs.Prelude.{◌==◌, ◌&&◌, Bool, true, false, Option}
use Rattle.known_parts.specs.Options as options
use Rattle.msp430_decode.specs.declared.instr.Width.{Width}
use Rattle.msp430_decode.specs.declared.instr.Width.TheVariants.{Word, Byte}
use Rattle.msp430_state.specs.declared.fact.FlagFact.{FlagFact}

abbrev pub is_same_width : Width → Width → Bool
is_same_width Word Word = true
is_same_width Byte Byte = true
is_same_width Word Byte = false
is_same_width Byte Word = false

abbrev pub is_same_fact : FlagFact → FlagFact → Bool
is_same_fact a b =
    (a.register == b.register) && (a.added == b.added) && (a.compared == b.compared) && is_same_width a.width b.width

-- a fact that both have
abbrev pub common_fact : Option FlagFact → Option FlagFact → Option FlagFact
common_fact = options.common_fact is_same_fact

-- the second has no fact that the first one lacks
abbrev pub is_fact_within : Option FlagFact → Option FlagFact → Bool
is_fact_within = options.is_fact_within is_same_fact
