use Rattle.std.proofs.Common.{◌≡◌, ◌<◌, take, map}
use Rattle.value_set.specs.Form.{common_stride}
use Rattle.value_set.proofs.gathering.common_stride.Given as goal

abbrev pub invariant-loop-number : goal.invariant-loop-number
invariant-loop-number g l = record {
  so_far : l.stride ≡ common_stride l.modulus l.from (map g.N.Number.number (take l.number-index l.list));
  below : l.stride < l.modulus;
}
