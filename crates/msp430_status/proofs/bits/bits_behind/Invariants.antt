use Rattle.std.proofs.Common.{◌≡◌, ◌++◌, take, drop, length}
use Rattle.value_bits.specs.Pointwise.{each_with}
use Rattle.msp430_status.specs.Status.{bit_behind}
use Rattle.msp430_status.proofs.bits.bits_behind.Given as goal

abbrev pub invariant-loop-place : goal.invariant-loop-place
invariant-loop-place l = record {
  made : take l.place l.bits ++ each_with (bit_behind l.operation) (drop l.place l.source) (drop l.place l.held) ≡ each_with (bit_behind l.operation) l.source l.held;
  count : length l.bits ≡ 9;
}
