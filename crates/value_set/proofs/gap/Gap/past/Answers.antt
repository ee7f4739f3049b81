use Rattle.std.proofs.Common.{refl, ◌-◌}
use Rattle.value_set.proofs.Gaps.{wider, narrow}
use Rattle.value_set.proofs.gap.Gap.past.Goals as goal

pub returns-then-self-width-clause-decides : goal.returns-then-self-width-clause-decides
returns-then-self-width-clause-decides c = λ xs. wider c.args.self c.args.value (c.args.value - c.args.self.previous) xs refl c.if-self-width.true

pub returns-clause-decides : goal.returns-clause-decides
returns-clause-decides c = λ xs. narrow c.args.self c.args.value (c.args.value - c.args.self.previous) xs refl c.if-self-width.false
