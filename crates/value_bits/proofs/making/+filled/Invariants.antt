use Rattle.std.proofs.Common.{length}
use Rattle.value_bits.proofs.making.+filled.Given as goal

abbrev pub decreases-filled : goal.decreases-filled
decreases-filled l = length l.all.now
