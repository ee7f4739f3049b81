use Rattle.std.proofs.Common.{◌≡◌, ◌≤◌, ◌++◌, ◌+◌, ◌-◌, length, drop}
use Rattle.value_set.specs.Merging.{merge}
use Rattle.value_set.proofs.merging.few_together.Given as goal

abbrev pub invariant-loop-at : goal.invariant-loop-at
invariant-loop-at l = record {
  first_there : l.at ≤ length l.first;
  second_there : l.other ≤ length l.second;
  room : length l.few ≤ 16;
  rest : l.few ++ merge (drop l.at l.first) (drop l.other l.second) ≡ merge l.first l.second;
}

abbrev pub decreases-loop-at : goal.decreases-loop-at
decreases-loop-at l = length l.first - l.at + (length l.second - l.other)
