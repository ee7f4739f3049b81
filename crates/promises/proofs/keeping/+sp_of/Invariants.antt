use Rattle.std.proofs.Common.{length}
use Rattle.promises.proofs.keeping.+sp_of.Given as goal

abbrev pub decreases-sp_of : goal.decreases-sp_of
decreases-sp_of l = length l.items.now
