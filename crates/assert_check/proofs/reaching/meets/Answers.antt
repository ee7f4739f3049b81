use Rattle.std.proofs.Common.{arith}
use Rattle.assert_check.proofs.reaching.meets.Goals as goal

pub returns-in-B-clause-below : goal.returns-in-B-clause-below
returns-in-B-clause-below c = λ v h. omega (arith, c.meets_bytes.ensures.below v (rw c.in-B.is at h))

pub returns-in-W-clause-below : goal.returns-in-W-clause-below
returns-in-W-clause-below c = λ v h. c.meets_words.ensures.below v (rw c.in-W.is at h)
