use Rattle.std.proofs.Common.{◌∙◌}
use Rattle.value_set.proofs.Sums.{twice_made, twice_class}
use Rattle.value_set.proofs.summing.twice_run.Goals as goal

pub returns-then-reach-modulus : goal.returns-then-reach-modulus
returns-then-reach-modulus c = c.make.ensures.value ∙ twice_made c.args.modulus c.reach.result c.args.run.now c.reach.ensures c.if-reach-modulus.true

pub returns : goal.returns
returns c = c.class.ensures ∙ twice_class c.args.modulus c.reach.result c.args.run.now c.reach.ensures c.if-reach-modulus.false
