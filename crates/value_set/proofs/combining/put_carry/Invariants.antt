use Rattle.std.proofs.Common.{◌≡◌, ◌≤◌, ◌+◌, take, length, map}
use Rattle.value_set.specs.Form.{put_all, Ascends, members}
use Rattle.value_set.proofs.combining.put_carry.Given as goal

abbrev pub invariant-loop-place : goal.invariant-loop-place
invariant-loop-place g l = record {
  items : l.values.items ≡ put_all l.fn.values.items (map (λ z. g.O.Operation.answer l.operation l.x l.y z) (take l.place (members l.modulus l.carry)));
  still : Ascends 0 65536 l.values.items;
  longer : length l.values.items ≤ length l.fn.values.items + l.place;
}
