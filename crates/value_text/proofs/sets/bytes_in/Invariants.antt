use Rattle.std.proofs.Common.{◌≡◌, take}
use Rattle.value_text.proofs.sets.bytes_in.Given as goal

abbrev pub invariant-loop-value : goal.invariant-loop-value
invariant-loop-value l = l.bytes.items ≡ take l.value-index l.value-items
