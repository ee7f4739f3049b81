use Rattle.std.proofs.Common.{arith, ◌∙◌, map}
use Rattle.value_set.proofs.Collects.{all_rise}
use Rattle.value_set.proofs.Gaps.{hull_of_list, list_fits, list_gathered}
use Rattle.value_set.proofs.long.run_of.Goals as goal

pub make-requires-clause-fits : goal.make-requires-clause-fits
make-requires-clause-fits g c =
    let made = hull_of_list c.args.modulus c.base_of-base.result c.common_stride-stride.result c.farthest.result c.steps_to-count.result (map g.N.Number.number c.args.list.now)
    c.base_of-base.ensures.value c.common_stride-stride.ensures c.farthest.ensures.value c.steps_to-count.ensures in
    list_fits c.args.modulus c.base_of-base.result c.common_stride-stride.result c.steps_to-count.result (map g.N.Number.number c.args.list.now) made
    (omega (arith, c.requires.many)) (all_rise g.N.Number.number c.args.modulus c.args.list.now c.requires.below)

pub returns : goal.returns
returns g c =
    let made = hull_of_list c.args.modulus c.base_of-base.result c.common_stride-stride.result c.farthest.result c.steps_to-count.result (map g.N.Number.number c.args.list.now)
    c.base_of-base.ensures.value c.common_stride-stride.ensures c.farthest.ensures.value c.steps_to-count.ensures in
    c.make.ensures.value ∙ list_gathered c.args.modulus c.base_of-base.result c.common_stride-stride.result c.steps_to-count.result (map g.N.Number.number c.args.list.now) made c.requires.many
