use Rattle.std.proofs.Common.{length}
use Rattle.value_bits.proofs.making.+numbers.Given as goal

abbrev pub decreases-numbers : goal.decreases-numbers
decreases-numbers l = length l.all.now
