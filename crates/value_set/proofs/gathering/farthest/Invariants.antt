use Rattle.std.proofs.Common.{◌≡◌, ◌<◌, take, map}
use Rattle.value_set.specs.Form.{farthest}
use Rattle.value_set.proofs.gathering.farthest.Given as goal

abbrev pub invariant-loop-number : goal.invariant-loop-number
invariant-loop-number g l = record {
  so_far : l.most ≡ farthest l.modulus l.from (map g.N.Number.number (take l.number-index l.list));
  around : l.most < l.modulus;
}
