use Rattle.mcs51_flow.proofs.Lawful.{orderly}
use Rattle.mcs51_flow.proofs.laws.Mcs51ChipOrderlyChip.order_laws.Goals as goal

pub returns : goal.returns
returns c = orderly c.laws_below.ensures
