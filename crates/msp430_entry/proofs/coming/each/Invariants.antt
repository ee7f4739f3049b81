use Rattle.std.proofs.Common.{◌≡◌}
use Rattle.std.specs.List.{filter, flat_map, range_with_len}
use Rattle.msp430_chip.specs.Interrupts.{may_come}
use Rattle.msp430_entry.specs.Entry.{comings_at}
use Rattle.msp430_entry.proofs.coming.each.Given as goal

abbrev pub invariant-loop-vector : goal.invariant-loop-vector
invariant-loop-vector l = l.all ≡ flat_map (comings_at l.sp) (filter (may_come l.device) (range_with_len 0 l.vector))
