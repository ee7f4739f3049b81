use Rattle.msp430_flow.proofs.Lawful.{lawful}
use Rattle.msp430_flow.proofs.laws.Msp430ChipLawfulChip.laws.Goals as goal

pub returns : goal.returns
returns c = lawful c.laws_below.ensures
