use Rattle.msp430_chip.proofs.Resets.{first_is_reset}
use Rattle.msp430_chip.proofs.laws.a_reset_exists.Goals as goal

pub returns : goal.returns
returns c = first_is_reset
