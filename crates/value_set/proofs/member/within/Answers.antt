use Rattle.value_set.proofs.Answering.{always}
use Rattle.value_set.proofs.Merges.{includes_itself}
use Rattle.value_set.proofs.member.within.Goals as goal

pub returns-then-same : goal.returns-then-same
returns-then-same c = always _ (includes_itself c.args.modulus c.args.smaller.now c.args.larger.now (c.same.ensures.0 c.if-same.true))
