-- Up to four flags that an operation on two numbers and a carry sets, by their places.
use Rattle.std.specs.Prelude.{Bool}
use Rattle.value_bits.specs.declared.tri.Tri.{Tri}
use Rattle.value_bits.specs.declared.all_flags.FourFlags.{FourFlags}
use Rattle.value_bits.specs.declared.all_flags.FourKnown.{FourKnown}

pub data Place : Type 0 where
  First : Place
  Second : Place
  Third : Place
  Fourth : Place

-- the flag at a place
abbrev pub flag_at : Place → FourFlags → Bool
flag_at First flags = flags.first
flag_at Second flags = flags.second
flag_at Third flags = flags.third
flag_at Fourth flags = flags.fourth

-- what is known of the flag at a place
abbrev pub known_at : Place → FourKnown → Tri
known_at First all = all.first
known_at Second all = all.second
known_at Third all = all.third
known_at Fourth all = all.fourth
