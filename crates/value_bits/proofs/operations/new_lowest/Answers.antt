use Rattle.std.proofs.Common.{arith, ◌+◌}
use Rattle.value_bits.proofs.Powers.{power_of_word}
use Rattle.value_bits.proofs.operations.new_lowest.Goals as goal

pub overflow_cast-result : goal.overflow_cast-result
overflow_cast-result c = let few = power_of_word (c.args.place + 1) c.requires in omega (arith, few)

pub overflow_shr-result : goal.overflow_shr-result
overflow_shr-result c = let few = power_of_word (c.args.place + 1) c.requires in omega (arith, few)
