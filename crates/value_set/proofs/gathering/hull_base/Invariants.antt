use Rattle.std.proofs.Common.{◌≡◌, drop}
use Rattle.value_set.specs.Form.{hull_base, Ascends}
use Rattle.value_set.specs.Gaps.{decided}
use Rattle.value_set.proofs.gathering.hull_base.Given as goal

abbrev pub invariant-loop-value : goal.invariant-loop-value
invariant-loop-value l = record {
  rest_decides : decided l.gap (drop l.value-index l.value-items) ≡ hull_base l.modulus l.values;
  rest_ascends : Ascends l.gap.previous l.modulus (drop l.value-index l.value-items);
}
