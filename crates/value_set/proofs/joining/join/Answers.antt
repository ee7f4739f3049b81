use Rattle.value_set.proofs.Merges.{join_itself}
use Rattle.value_set.proofs.joining.join.Goals as goal

pub returns-then-same : goal.returns-then-same
returns-then-same c = join_itself c.args.modulus c.args.first.now c.args.second.now (c.same.ensures.0 c.if-same.true)
