use Rattle.std.proofs.Common.{◌≡◌}
use Rattle.std.specs.List.{flat_map, range_with_len}
use Rattle.mcs51_entry.specs.Coming.{source_comings}
use Rattle.mcs51_entry.proofs.coming.each.Given as goal

abbrev pub invariant-loop-source : goal.invariant-loop-source
invariant-loop-source g l = l.all ≡ flat_map (source_comings l.state) (range_with_len 0 l.source)
