use Rattle.std.proofs.Common.{arith, ◌∙◌}
use Rattle.std.proofs.lemmas.Nat.{mod_below}
use Rattle.value_set.proofs.Spans.{divisor_positive, class_fits}
use Rattle.value_set.proofs.Joins.{class-is, divisor_small}
use Rattle.value_set.proofs.joining.class.Goals as goal

pub nonzero_rem-base : goal.nonzero_rem-base
nonzero_rem-base c = rw c.greatest_common_divisor-stride.ensures (divisor_positive c.args.modulus c.args.stride c.requires.positive)

pub nonzero_div-modulus : goal.nonzero_div-modulus
nonzero_div-modulus c = rw c.greatest_common_divisor-stride.ensures (divisor_positive c.args.modulus c.args.stride c.requires.positive)

pub make-requires-clause-base_small : goal.make-requires-clause-base_small
make-requires-clause-base_small c =
    let pos = divisor_positive c.args.modulus c.args.stride c.requires.positive in
    let low = mod_below c.args.base c.greatest_common_divisor-stride.result (omega (arith, pos, c.greatest_common_divisor-stride.ensures)) in
    omega (arith, low, divisor_small c.args.modulus c.args.stride c.requires.positive, c.greatest_common_divisor-stride.ensures)

pub make-requires-clause-fits : goal.make-requires-clause-fits
make-requires-clause-fits c = rw c.greatest_common_divisor-stride.ensures (class_fits c.args.modulus c.args.stride c.requires.positive)

pub returns : goal.returns
returns c = c.make.ensures.value ∙ class-is c.args.modulus c.args.base c.args.stride c.greatest_common_divisor-stride.result c.greatest_common_divisor-stride.ensures
