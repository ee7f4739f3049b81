use Rattle.irq_frames.proofs.Lists.{all_masked}
use Rattle.irq_frames.proofs.masking.masked_bits.Goals as goal

pub returns : goal.returns
returns g c = all_masked g.row.N c.loop-i.i c.loop-i.and_left c.loop-i.or_left c.loop-i.bits c.args.held.now _
    c.loop-i-test.false c.loop-i.invariant.count c.loop-i.invariant.held c.loop-i.invariant.made
