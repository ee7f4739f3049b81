use Rattle.msp430_flow.proofs.Lawful.{orderly}
use Rattle.msp430_flow.proofs.laws.Msp430ChipOrderlyChip.order_laws.Goals as goal

pub returns : goal.returns
returns c = orderly c.laws_below.ensures
