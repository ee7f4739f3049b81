use Rattle.std.proofs.Common.{◌≡◌, ◌++◌, take}
use Rattle.value_set.proofs.merging.with_all.Given as goal

abbrev pub invariant-loop-number : goal.invariant-loop-number
invariant-loop-number l = l.all ≡ l.fn.few ++ take l.number-index l.numbers
