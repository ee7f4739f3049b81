use Rattle.std.proofs.Common.{arith}
use Rattle.text_fields.specs.Numbers.{longer_power}
use Rattle.text_fields.proofs.reading.number_of.Goals as goal

pub overflow_mul-number : goal.overflow_mul-number
overflow_mul-number c = omega (arith, longer_power c.loop-byte.byte-index 3 (omega arith))

pub overflow_add-number : goal.overflow_add-number
overflow_add-number c = omega (arith, longer_power c.loop-byte.byte-index 3 (omega arith))

pub overflow_cast-result : goal.overflow_cast-result
overflow_cast-result c = omega (arith, longer_power c.loop-byte.byte-index 4 (omega arith))
