use Rattle.std.proofs.Common.{arith, ◌+◌}
use Rattle.value_bits.proofs.Powers.{power_of_word}
use Rattle.value_bits.proofs.operations.shifted_right.Goals as goal

pub overflow_cast-result : goal.overflow_cast-result
overflow_cast-result c = let few = power_of_word (c.args.place + 1) c.requires.small in omega (arith, few)

pub overflow_shl-result : goal.overflow_shl-result
overflow_shl-result c = let few = power_of_word (c.args.place + 1) c.requires.small in omega (arith, few)
