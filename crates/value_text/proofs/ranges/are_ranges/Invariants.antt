use Rattle.std.proofs.Common.{◌≡◌, drop}
use Rattle.value_text.specs.Ranges as fields
use Rattle.value_text.proofs.ranges.are_ranges.Given as goal

-- the answer is that of the ranges that are left
abbrev pub invariant-loop-range : goal.invariant-loop-range
invariant-loop-range l = fields.are_ranges l.from l.hi l.ranges ≡ fields.are_ranges l.low l.hi (drop l.range-index l.ranges)
