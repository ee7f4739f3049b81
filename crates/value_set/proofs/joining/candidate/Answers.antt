use Rattle.value_set.proofs.Joins.{candidate_made}
use Rattle.value_set.proofs.joining.candidate.Goals as goal

pub returns-clause-value : goal.returns-clause-value
returns-clause-value c = candidate_made c.args.modulus c.args.first.now c.args.second.now c.above-offset.result c.greatest_common_divisor-strides.result
    c.greatest_common_divisor.result c.greater.result c.reach.result c.reach-2.result c.above-offset.ensures.distance c.greatest_common_divisor-strides.ensures
    c.greatest_common_divisor.ensures c.reach.ensures c.reach-2.ensures c.greater.ensures
