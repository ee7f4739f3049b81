use Rattle.std.proofs.Common.{◌≡◌, ◌≤◌, length, drop}
use Rattle.value_set.specs.Merging.{is_sublist}
use Rattle.value_set.proofs.merging.list_within.Given as goal

abbrev pub invariant-loop-number : goal.invariant-loop-number
invariant-loop-number l = record {
  there : l.found ≤ length l.smaller;
  rest : is_sublist (drop l.found l.smaller) (drop l.number-index l.larger) ≡ is_sublist l.smaller l.larger;
}
