use Rattle.std.proofs.Common.{◌≡◌, take}
use Rattle.call_context.proofs.shown.InstrBytes.from_slice.Given as goal

abbrev pub invariant-loop-byte : goal.invariant-loop-byte
invariant-loop-byte l = l.all.items ≡ take l.byte-index l.bytes
