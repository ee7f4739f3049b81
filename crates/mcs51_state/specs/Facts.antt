-- What is known of the accumulator and of CY beside their values: how an index of a table is made of a byte of RAM, and what
-- CJNE found (Intel, MCS-51 Microcontroller Family User's Manual, "Instruction Definitions").
use Rattle.std.specs.Prelude.{◌==◌, ◌&&◌, Bool, true, false}
pub use Rattle.known_parts.specs.Options.{common_fact, is_fact_within}
use Rattle.mcs51_state.specs.declared.fact.LinearFact.{LinearFact}
use Rattle.mcs51_state.specs.declared.fact.Compared.{Compared}
use Rattle.mcs51_state.specs.declared.fact.Compared.TheVariants.{Accumulator, Ram}
use Rattle.mcs51_state.specs.declared.fact.CarryFact.{CarryFact}

abbrev pub is_same_linear : LinearFact → LinearFact → Bool
is_same_linear a b = (a.place == b.place) && (a.factor == b.factor) && (a.added == b.added)

abbrev pub is_same_compared : Compared → Compared → Bool
is_same_compared Accumulator Accumulator = true
is_same_compared (Ram at) (Ram other) = at == other
is_same_compared Accumulator (Ram at) = false
is_same_compared (Ram at) Accumulator = false

abbrev pub is_same_carry : CarryFact → CarryFact → Bool
is_same_carry a b = is_same_compared a.compared b.compared && (a.bound == b.bound)
