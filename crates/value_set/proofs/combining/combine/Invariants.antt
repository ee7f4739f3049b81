use Rattle.std.proofs.Common.{◌≡◌, ◌≤◌, ◌*◌, take, length}
use Rattle.value_set.specs.Form.{ascending, Ascends, members}
use Rattle.value_set.specs.Summing.{results}
use Rattle.value_set.proofs.combining.combine.Given as goal

abbrev pub invariant-loop-place : goal.invariant-loop-place
invariant-loop-place g l = record {
  items : l.values.items ≡ ascending (results (g.O.Operation.answer l.operation) (take l.place (members l.modulus l.first)) (members l.modulus l.second) (members l.modulus l.carry));
  still : Ascends 0 65536 l.values.items;
  longer : length l.values.items ≤ l.place * (length (members l.modulus l.second) * length (members l.modulus l.carry));
}
