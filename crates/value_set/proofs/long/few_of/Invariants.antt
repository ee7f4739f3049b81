use Rattle.std.proofs.Common.{◌≡◌, ◌≤◌, take, length, map}
use Rattle.value_set.specs.Form.{ascending, Ascends}
use Rattle.value_set.proofs.long.few_of.Given as goal

abbrev pub invariant-loop-number : goal.invariant-loop-number
invariant-loop-number g l = record {
  items : l.values.items ≡ ascending (map g.N.Number.number (take l.number-index l.list));
  still : Ascends 0 65536 l.values.items;
  few : length l.values.items ≤ 16;
}
