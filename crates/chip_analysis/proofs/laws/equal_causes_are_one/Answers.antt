use Rattle.chip_analysis.proofs.SameCauses.{cause_same}
use Rattle.chip_analysis.proofs.laws.equal_causes_are_one.Goals as goal

pub returns : goal.returns
returns c = cause_same c.equal_items_are_one.ensures.sets
