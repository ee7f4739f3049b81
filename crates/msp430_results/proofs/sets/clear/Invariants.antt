use Rattle.std.proofs.Common.{◌≡◌, ◌++◌, take, drop, map, length}
use Rattle.value_bits.specs.Bits.{tri_and, tri_not}
use Rattle.value_bits.specs.Pointwise.{each_with}
use Rattle.msp430_results.proofs.sets.clear.Given as goal

abbrev pub invariant-loop-place : goal.invariant-loop-place
invariant-loop-place l = record {
  made : take l.place l.held ++ each_with tri_and (drop l.place l.held) (map tri_not (drop l.place l.others)) ≡ each_with tri_and l.fn.held (map tri_not l.others);
  count : length l.held ≡ length l.others;
}
