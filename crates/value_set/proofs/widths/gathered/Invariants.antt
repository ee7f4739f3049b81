use Rattle.std.proofs.Common.{◌≡◌, ◌≤◌, take, length}
use Rattle.value_set.specs.Form.{ascending, Ascends, members}
use Rattle.value_set.proofs.widths.gathered.Given as goal

abbrev pub invariant-loop-place : goal.invariant-loop-place
invariant-loop-place l = record {
  items : l.values.items ≡ ascending (take l.place (members 256 l.bytes));
  still : Ascends 0 65536 l.values.items;
  longer : length l.values.items ≤ l.place;
}
