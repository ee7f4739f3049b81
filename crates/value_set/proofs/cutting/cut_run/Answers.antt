use Rattle.std.proofs.Common.{◌∙◌}
use Rattle.value_set.proofs.Cuts.{cut_made}
use Rattle.value_set.proofs.cutting.cut_run.Goals as goal

pub returns : goal.returns
returns c = c.join_parts.ensures ∙ cut_made c.args.modulus c.args.low c.args.len c.above-base.result c.count_below-front.result c.behind_turn-turned.result
    c.count_below-near.result c.count_below-far.result c.args.run.now c.part-first.result c.part-second.result c.above-base.ensures.distance
    c.count_below-front.ensures.value c.behind_turn-turned.ensures c.count_below-near.ensures.value c.count_below-far.ensures.value
    c.part-first.ensures.value c.part-second.ensures.value
