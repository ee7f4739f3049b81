use Rattle.mcs51_chip.proofs.Forms.{first_is_reset}
use Rattle.mcs51_chip.proofs.laws.a_reset_exists.Goals as goal

pub returns : goal.returns
returns c = first_is_reset
