use Rattle.std.proofs.Common.{sym}
use Rattle.std.specs.List.{enumerate_from}
use Rattle.ihex_read.proofs.PlacingLemmas.{mirror_nowhere}
use Rattle.ihex_read.proofs.placing.stand_in_mirror.Goals as goal

pub returns-in-None : goal.returns-in-None
returns-in-None c = rw c.in-None.is (sym (mirror_nowhere (enumerate_from c.args.start c.args.bytes.now)))
