use Rattle.std.proofs.Common.{◌≡◌, ◌<◌, ◌≤◌}
use Rattle.std.specs.List.{All, filter, range_with_len}
use Rattle.arrayvec.specs.ArrayVec.{array_vec_len}
use Rattle.msp430_chip.specs.Interrupts.{may_come}
use Rattle.msp430_emu.proofs.interrupt.raised.Given as goal

abbrev pub invariant-loop-vector : goal.invariant-loop-vector
invariant-loop-vector l = record {
  vectors : l.vectors.items ≡ filter (may_come l.layout) (range_with_len 0 l.vector);
  below : All (λ vector. vector < 14) l.vectors.items;
  room : array_vec_len l.vectors ≤ l.vector;
}
