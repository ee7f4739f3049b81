use Rattle.std.proofs.Common.{◌≡◌, drop}
use Rattle.irq_frames.specs.Ranges.{ranges_within}
use Rattle.irq_frames.proofs.ranges.Ranges.within.Given as goal

abbrev pub invariant-loop-range : goal.invariant-loop-range
invariant-loop-range l = ranges_within (drop l.range-index l.range-items) l.other ≡ ranges_within l.self l.other
