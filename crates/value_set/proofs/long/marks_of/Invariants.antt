use Rattle.std.proofs.Common.{◌≡◌, ℕ, ◌+◌, ◌<◌, take, length, map, true, false}
use Rattle.std.specs.Prelude.{slice_index_or, ◌↔◌}
use Rattle.std.specs.List.{Contains}
use Rattle.value_set.proofs.long.marks_of.Given as goal

abbrev pub invariant-loop-number : goal.invariant-loop-number
invariant-loop-number g l = record {
  marks : (k : ℕ) → k < 4096 → (slice_index_or l.marked k false ≡ true) ↔ Contains (map g.N.Number.number (take l.number-index l.list)) (l.low + k);
  size : length l.marked ≡ 4096;
}
