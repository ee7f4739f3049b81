use Rattle.std.proofs.Common.{arith}
use Rattle.std.proofs.lemmas.Bool.Decides.{nat_tests}
use Rattle.ihex_read.proofs.PlacingLemmas.{range-row}
use Rattle.ihex_read.proofs.placing.stand_in.Goals as goal

pub returns-then-start-end : goal.returns-then-start-end
returns-then-start-end c = rw (range-row c.args.low c.args.high c.args.start c.args.bytes.now) (grind (arith, nat_tests))
