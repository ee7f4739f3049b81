use Rattle.std.proofs.Common.{◌≡◌, ◌++◌, take}
use Rattle.value_bits.proofs.knowing.joined.Given as goal

abbrev pub invariant-loop-bit : goal.invariant-loop-bit
invariant-loop-bit l = l.all.items ≡ take l.bit-index l.low

abbrev pub invariant-loop-bit-2 : goal.invariant-loop-bit-2
invariant-loop-bit-2 l = l.all.items ≡ l.low ++ take l.bit-index l.high
