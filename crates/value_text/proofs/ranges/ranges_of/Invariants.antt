use Rattle.std.proofs.Common.{◌≡◌, take}
use Rattle.value_text.proofs.ranges.ranges_of.Given as goal

abbrev pub invariant-loop-range : goal.invariant-loop-range
invariant-loop-range l = l.all ≡ take l.range-index l.ranges
