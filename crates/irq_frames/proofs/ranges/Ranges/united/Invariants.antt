use Rattle.std.proofs.Common.{◌≡◌, drop}
use Rattle.irq_frames.specs.Ranges.{united}
use Rattle.irq_frames.proofs.ranges.Ranges.united.Given as goal

abbrev pub invariant-loop-range : goal.invariant-loop-range
invariant-loop-range l = record {
  left : united l.all (drop l.range-index l.range-items) ≡ united l.self l.other;
}
