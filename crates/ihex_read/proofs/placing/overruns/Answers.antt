use Rattle.std.proofs.Common.{arith}
use Rattle.std.proofs.lemmas.Bool.Decides.{nat_tests}
use Rattle.ihex_read.proofs.PlacingLemmas.{outside-row}
use Rattle.ihex_read.proofs.placing.overruns.Goals as goal

pub returns-then-not-is_empty : goal.returns-then-not-is_empty
returns-then-not-is_empty c = rw (outside-row c.args.start c.args.bytes.now) (grind (arith, nat_tests))
