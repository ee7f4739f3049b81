use Rattle.std.proofs.Common.{arith}
use Rattle.value_bits.specs.Staying.{exchanged_below}
use Rattle.value_bits.proofs.operations.exchanged.Goals as goal

pub overflow_mul-result : goal.overflow_mul-result
overflow_mul-result c = let whole = exchanged_below c.args.n c.args.x c.requires.below in omega (arith, whole)

pub overflow_add-result : goal.overflow_add-result
overflow_add-result c = let whole = exchanged_below c.args.n c.args.x c.requires.below in omega (arith, whole)
