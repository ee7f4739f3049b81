use Rattle.std.proofs.Common.{◌∙◌}
use Rattle.value_set.proofs.Answering.{denied}
use Rattle.value_set.proofs.Sums.{summed_few, summed_many, few_with_one, carry_normal}
use Rattle.value_set.proofs.summing.signed_sum.Goals as goal
use Rattle.value_set.proofs.Spans.{modulus_positive}

pub combine-requires-clause-carry_normal : goal.combine-requires-clause-carry_normal
combine-requires-clause-carry_normal c = carry_normal c.args.modulus 0 c.single.result (modulus_positive c.args.modulus c.args.first.now c.requires.first_normal) c.single.ensures

pub combine-requires-clause-few : goal.combine-requires-clause-few
combine-requires-clause-few c = few_with_one c.args.modulus 0 c.args.first.now c.args.second.now c.single.result (c.has_few_results.ensures.0 c.if-has_few_results.true) c.single.ensures

pub returns-then-has_few_results : goal.returns-then-has_few_results
returns-then-has_few_results c = c.combine.ensures ∙ summed_few c.args.modulus c.args.sign c.args.first.now c.args.second.now c.single.result
    (c.has_few_results.ensures.0 c.if-has_few_results.true) c.single.ensures

pub returns : goal.returns
returns c = c.add_spans.ensures ∙ summed_many c.args.modulus c.args.sign c.args.first.now c.args.second.now c.span.result c.signed_span.result
    (denied _ _ c.has_few_results.ensures c.if-has_few_results.false) c.span.ensures.value c.signed_span.ensures.value
