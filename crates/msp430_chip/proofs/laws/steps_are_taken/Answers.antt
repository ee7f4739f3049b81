use Rattle.std.proofs.Common.{[]}
use Rattle.choosing.specs.Fronts.{enough_choices, small_front}
use Rattle.msp430_chip.proofs.StepFronts.{step_asks}
use Rattle.msp430_chip.specs.Step.{step_of}
use Rattle.msp430_chip.proofs.laws.steps_are_taken.Goals as goal

pub returns-clause-some : goal.returns-clause-some
returns-clause-some c = λ device s. enough_choices 7 (step_of device s) (step_asks device s)

pub returns-clause-small : goal.returns-clause-small
returns-clause-small c = λ device s choices outcome. small_front 7 (step_of device s) (step_asks device s) choices [] outcome
