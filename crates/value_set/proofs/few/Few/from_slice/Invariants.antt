use Rattle.std.proofs.Common.{◌≡◌, take}
use Rattle.value_set.proofs.few.Few.from_slice.Given as goal

abbrev pub invariant-loop-value : goal.invariant-loop-value
invariant-loop-value g l = l.few ≡ take l.value-index l.list
