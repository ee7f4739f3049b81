use Rattle.std.proofs.Common.{◌≡◌, ◌≤◌, take, length}
use Rattle.std.specs.List.{filter}
use Rattle.mcs51_branch.specs.Testing.{has_bit}
use Rattle.mcs51_branch.proofs.testing.with_bit.Given as goal

abbrev pub invariant-loop-value : goal.invariant-loop-value
invariant-loop-value l = record {
  kept : l.kept.items ≡ filter (has_bit l.place l.bit) (take l.value-index l.values);
  room : length l.kept.items ≤ l.value-index;
}
