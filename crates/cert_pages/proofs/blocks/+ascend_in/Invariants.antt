use Rattle.std.proofs.Common.{length}
use Rattle.cert_pages.proofs.blocks.+ascend_in.Given as goal

abbrev pub decreases-ascend_in : goal.decreases-ascend_in
decreases-ascend_in l = length l.text.now
