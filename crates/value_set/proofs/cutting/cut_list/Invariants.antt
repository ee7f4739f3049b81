use Rattle.std.proofs.Common.{◌≡◌, ◌≤◌, take, length}
use Rattle.std.specs.Prelude.{nat_lt}
use Rattle.std.specs.List.{filter}
use Rattle.value_set.specs.Form.{above}
use Rattle.value_set.proofs.cutting.cut_list.Given as goal

abbrev pub invariant-loop-value : goal.invariant-loop-value
invariant-loop-value l = record {
  kept : l.kept ≡ filter (λ v. nat_lt (above l.modulus l.low v) l.len) (take l.value-index l.value-items);
  room : length l.kept ≤ l.value-index;
}
