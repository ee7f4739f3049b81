use Rattle.std.proofs.Common.{arith}
use Rattle.std.proofs.lemmas.Grind.{common_steps}
use Rattle.msp430_chip.specs.Step as steps
use Rattle.msp430_emu.proofs.jump.return_from_interrupt.Goals as goal

pub returns-in_err-status-clause-exact : goal.returns-in_err-status-clause-exact
unfolding steps.return
returns-in_err-status-clause-exact c = grind (arith, common_steps)

pub returns-in_err-target-clause-exact : goal.returns-in_err-target-clause-exact
unfolding steps.return
returns-in_err-target-clause-exact c = grind (arith, common_steps)

pub returns-clause-exact : goal.returns-clause-exact
unfolding steps.return
returns-clause-exact c = grind (arith, common_steps)
