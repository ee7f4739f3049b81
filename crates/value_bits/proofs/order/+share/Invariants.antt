use Rattle.std.proofs.Common.{◌+◌, length}
use Rattle.value_bits.proofs.order.+share.Given as goal

abbrev pub decreases-share : goal.decreases-share
decreases-share l = length l.xs.now + length l.ys.now
