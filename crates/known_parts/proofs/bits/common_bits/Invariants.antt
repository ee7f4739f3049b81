use Rattle.std.proofs.Common.{◌≡◌, ◌++◌, take, drop, length}
use Rattle.known_parts.specs.Bits.{common_bit}
use Rattle.value_bits.specs.Pointwise.{each_with}
use Rattle.known_parts.proofs.bits.common_bits.Given as goal

abbrev pub invariant-loop-i : goal.invariant-loop-i
invariant-loop-i g l = record {
  made : take l.i l.common ++ each_with common_bit (drop l.i l.held) (drop l.i l.new) ≡ each_with common_bit l.held l.new;
  count : length l.common ≡ g.row.N;
}
