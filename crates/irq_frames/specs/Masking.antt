-- Bits of a status behind the masks of a relation, from the lowest bit on.
use Rattle.std.specs.Prelude.{ℕ, ◌/◌, ◌%◌, ◌==◌, if◌then◌else◌, Option, option_map, List, [], ◌∷◌}
use Rattle.entry_value.specs.declared.word.Entry.{Entry}
use Rattle.entry_value.specs.Words.{entry_and, entry_or}
use Rattle.value_bits.specs.declared.tri.Tri.{Tri}
use Rattle.value_bits.specs.declared.tri.Tri.TheVariants.{Zero, One}

-- a bit behind an AND and an OR with the lowest bits of masks
abbrev pub masked_bit : (and or : ℕ) → Tri → Tri
masked_bit and or bit = if or % 2 == 1 then One else if and % 2 == 1 then bit else Zero

abbrev pub masked_bits : (and or : ℕ) → List Tri → List Tri
masked_bits and or [] = []
masked_bits and or (bit ∷ bits) = masked_bit and or bit ∷ masked_bits (and / 2) (or / 2) bits

-- the relation of what a place held, behind the masks of a relation
abbrev pub masked_entry : Entry → (held : Option Entry) → Option Entry
masked_entry entry held = option_map (entry_or entry.or) (option_map (entry_and entry.and) held)
