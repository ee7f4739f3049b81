use Rattle.std.proofs.Common.{◌≡◌, drop}
use Rattle.value_bits.specs.Pointwise.{each_passes}
use Rattle.known_parts.specs.Bits.{is_bit_within}
use Rattle.known_parts.proofs.bits.are_bits_within.Given as goal

abbrev pub invariant-loop-i : goal.invariant-loop-i
invariant-loop-i g l = each_passes is_bit_within (drop l.i l.new) (drop l.i l.held) ≡ each_passes is_bit_within l.new l.held
