use Rattle.std.proofs.Common.{arith}
use Rattle.value_bits.proofs.Powers.{two_below_sixteen}
use Rattle.value_bits.proofs.formulas.decimal_add_set.Goals as goal

pub combined-requires-clause-carry_normal : goal.combined-requires-clause-carry_normal
combined-requires-clause-carry_normal c =
    c.chosen.ensures.normal c.power_of_sixteen-modulus.result (omega (arith, two_below_sixteen c.args.digits c.requires.some, c.power_of_sixteen-modulus.ensures.value))

pub any-requires-clause-positive : goal.any-requires-clause-positive
any-requires-clause-positive c = omega (arith, two_below_sixteen c.args.digits c.requires.some, c.power_of_sixteen-modulus.ensures.value)

pub any-requires-in-None-clause-positive : goal.any-requires-in-None-clause-positive
any-requires-in-None-clause-positive c = omega (arith, two_below_sixteen c.args.digits c.requires.some, c.power_of_sixteen-modulus.ensures.value)
