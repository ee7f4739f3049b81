use Rattle.std.proofs.Common.{◌≡◌, ◌≤◌, ◌<◌, length, take, drop, vec_capacity, vec_len}
use Rattle.irq_frames.specs.Ranges.{EachReaches, with_range}
use Rattle.irq_frames.proofs.ranges.put.Given as goal

abbrev pub invariant-loop-ranges : goal.invariant-loop-ranges
invariant-loop-ranges l = record {
  inside : l.index ≤ length l.ranges.items;
  room : vec_len l.ranges < vec_capacity l.ranges;
  front : take l.index l.ranges.items ≡ take l.index l.fn.ranges.items;
  reaches : EachReaches l.low (drop l.index l.ranges.items);
  left : with_range l.low l.high (drop l.index l.ranges.items) ≡ with_range l.lo l.hi (drop l.index l.fn.ranges.items);
}

abbrev pub decreases-loop-ranges : goal.decreases-loop-ranges
decreases-loop-ranges l = length l.ranges.items
