use Rattle.std.proofs.Common.{◌≡◌, ◌+◌, map}
use Rattle.value_set.specs.Form.{Ascends, ascending}
use Rattle.value_set.specs.Gaps.{decided, onward}
use Rattle.value_set.proofs.long.past_page.Given as goal

abbrev pub invariant-loop-place : goal.invariant-loop-place
invariant-loop-place g l = record {
  rest_decides : decided l.gap (onward (l.low + l.place) (ascending (map g.N.Number.number l.list))) ≡ decided l.fn.gap (onward l.low (ascending (map g.N.Number.number l.list)));
  upward : Ascends l.gap.previous l.modulus (onward (l.low + l.place) (ascending (map g.N.Number.number l.list)));
}
