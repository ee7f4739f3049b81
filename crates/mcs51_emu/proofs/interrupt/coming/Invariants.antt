use Rattle.std.proofs.Common.{◌≡◌, ◌<◌, ◌≤◌}
use Rattle.std.specs.List.{All, filter, range_with_len}
use Rattle.arrayvec.specs.ArrayVec.{array_vec_len}
use Rattle.mcs51_chip.specs.Interrupts.{may_come}
use Rattle.mcs51_emu.proofs.interrupt.coming.Given as goal

abbrev pub invariant-loop-source : goal.invariant-loop-source
invariant-loop-source l = record {
  sources : l.sources.items ≡ filter (may_come l.s) (range_with_len 0 l.source);
  below : All (λ source. source < 6) l.sources.items;
  room : array_vec_len l.sources ≤ l.source;
}
