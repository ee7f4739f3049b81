use Rattle.std.proofs.Common.{◌≡◌, ◌≤◌, ◌+◌, ◌*◌, take, length, map}
use Rattle.std.specs.List.{flat_map}
use Rattle.value_set.specs.Form.{put_all, Ascends, members}
use Rattle.value_set.proofs.combining.put_second.Given as goal

abbrev pub invariant-loop-place : goal.invariant-loop-place
invariant-loop-place g l = record {
  items : l.values.items ≡ put_all l.fn.values.items (flat_map (λ y. map (λ z. g.O.Operation.answer l.operation l.x y z) (members l.modulus l.carry)) (take l.place (members l.modulus l.second)));
  still : Ascends 0 65536 l.values.items;
  longer : length l.values.items ≤ length l.fn.values.items + l.place * length (members l.modulus l.carry);
}
