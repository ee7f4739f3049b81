use Rattle.std.proofs.Common.{◌≡◌, ◌++◌, take, drop, length}
use Rattle.irq_frames.specs.Masking.{masked_bits}
use Rattle.irq_frames.proofs.masking.masked_bits.Given as goal

abbrev pub invariant-loop-i : goal.invariant-loop-i
invariant-loop-i g l = record {
  made : take l.i l.bits ++ masked_bits l.and_left l.or_left (drop l.i l.held) ≡ masked_bits l.and l.or l.held;
  count : length l.bits ≡ g.row.N;
  held : length l.held ≡ g.row.N;
}
