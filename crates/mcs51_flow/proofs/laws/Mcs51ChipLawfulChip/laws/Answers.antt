use Rattle.mcs51_flow.proofs.Lawful.{lawful}
use Rattle.mcs51_flow.proofs.laws.Mcs51ChipLawfulChip.laws.Goals as goal

pub returns : goal.returns
returns c = lawful c.laws_below.ensures
