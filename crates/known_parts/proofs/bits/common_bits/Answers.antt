use Rattle.known_parts.specs.Bits.{common_bit}
use Rattle.known_parts.specs.Pointwise.{all_made}
use Rattle.known_parts.proofs.bits.common_bits.Goals as goal

pub returns : goal.returns
returns g c =
    all_made common_bit g.row.N c.loop-i.i c.loop-i.common c.args.held.now c.args.new.now _ c.loop-i-test.false c.loop-i.invariant.count c.told-held c.loop-i.invariant.made
