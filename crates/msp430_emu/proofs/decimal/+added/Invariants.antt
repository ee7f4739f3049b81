use Rattle.msp430_emu.proofs.decimal.+added.Given as goal

abbrev pub decreases-added : goal.decreases-added
decreases-added l = l.digits
