use Rattle.std.proofs.Common.{length}
use Rattle.promises.proofs.keeping.+pc_of.Given as goal

abbrev pub decreases-pc_of : goal.decreases-pc_of
decreases-pc_of l = length l.items.now
