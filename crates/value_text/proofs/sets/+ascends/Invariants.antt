use Rattle.std.proofs.Common.{length}
use Rattle.value_text.proofs.sets.+ascends.Given as goal

abbrev pub decreases-ascends : goal.decreases-ascends
decreases-ascends l = length l.values.now
