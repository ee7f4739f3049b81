use Rattle.std.proofs.Common.{◌∙◌, sym, arith}
use Rattle.value_bits.specs.declared.tri.Tri.TheVariants.{Zero}
use Rattle.known_parts.specs.Bits.{is_bit_within}
use Rattle.known_parts.specs.Pointwise.{fails_at}
use Rattle.known_parts.proofs.bits.are_bits_within.Goals as goal

pub returns-then-not-is_bit_within : goal.returns-then-not-is_bit_within
returns-then-not-is_bit_within g c =
    sym (fails_at is_bit_within c.args.new.now c.args.held.now c.loop-i.i Zero (omega (arith, c.told-new)) (omega (arith, c.told-held))
    (sym c.is_bit_within.ensures ∙ c.if-not-is_bit_within.true))
