use Rattle.image_gen.proofs.Reached.{msp430_reached, mcs51_reached}
use Rattle.image_gen.proofs.laws.calls_reach_functions.Goals as goal

pub returns-clause-msp430 : goal.returns-clause-msp430
returns-clause-msp430 c = msp430_reached

pub returns-clause-mcs51 : goal.returns-clause-mcs51
returns-clause-mcs51 c = mcs51_reached
