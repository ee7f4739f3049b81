use Rattle.std.proofs.Common.{◌∙◌, refl}
use Rattle.value_set.proofs.Sums.{spans_once, spans_round}
use Rattle.value_set.proofs.summing.add_spans.Goals as goal

pub returns-then-end-modulus : goal.returns-then-end-modulus
returns-then-end-modulus c = c.make.ensures.value ∙ spans_once c.args.modulus _ _ _ _ _ _ c.args.first.now c.args.second.now refl c.greatest_common_divisor-stride.ensures
    c.reach.ensures c.reach-2.ensures refl c.if-end-modulus.true c.steps_to-count.ensures

pub returns : goal.returns
returns c = c.class.ensures ∙ spans_round c.args.modulus _ _ _ _ _ c.args.first.now c.args.second.now refl c.greatest_common_divisor-stride.ensures
    c.reach.ensures c.reach-2.ensures refl c.if-end-modulus.false
