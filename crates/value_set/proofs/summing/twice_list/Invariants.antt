use Rattle.std.proofs.Common.{◌≡◌, ◌≤◌, ◌+◌, ◌%◌, take, length, map}
use Rattle.value_set.specs.Form.{ascending, Ascends}
use Rattle.value_set.proofs.summing.twice_list.Given as goal

abbrev pub invariant-loop-value : goal.invariant-loop-value
invariant-loop-value l = record {
  items : l.values.items ≡ ascending (map (λ v. (v + v) % l.modulus) (take l.value-index l.value-items));
  still : Ascends 0 65536 l.values.items;
  longer : length l.values.items ≤ l.value-index;
}
