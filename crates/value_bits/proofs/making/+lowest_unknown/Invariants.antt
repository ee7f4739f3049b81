use Rattle.std.proofs.Common.{length}
use Rattle.value_bits.proofs.making.+lowest_unknown.Given as goal

abbrev pub decreases-lowest_unknown : goal.decreases-lowest_unknown
decreases-lowest_unknown l = length l.all.now
