use Rattle.msp430_kept.proofs.InFront.{fronts}
use Rattle.msp430_kept.proofs.laws.front_laws.Goals as goal

pub returns : goal.returns
returns c = fronts c.known_laws.ensures c.cuts_hold.ensures c.place_laws.ensures
