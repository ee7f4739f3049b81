use Rattle.std.proofs.Common.{◌≡◌, ◌*◌, map}
use Rattle.value_set.specs.Form.{Ascends, ascending, hull_base}
use Rattle.value_set.specs.Gaps.{decided, onward}
use Rattle.value_set.proofs.long.base_of.Given as goal

abbrev pub invariant-loop-page : goal.invariant-loop-page
invariant-loop-page g l = record {
  rest_decides : decided l.gap (onward (l.page * 4096) (ascending (map g.N.Number.number l.list))) ≡ hull_base l.modulus (ascending (map g.N.Number.number l.list));
  upward : Ascends l.gap.previous l.modulus (onward (l.page * 4096) (ascending (map g.N.Number.number l.list)));
}
