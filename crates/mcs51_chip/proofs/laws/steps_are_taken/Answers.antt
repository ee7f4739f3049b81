use Rattle.std.proofs.Common.{[]}
use Rattle.choosing.specs.Fronts.{enough_choices, small_front}
use Rattle.mcs51_chip.proofs.Fronts.{step_asks}
use Rattle.mcs51_chip.specs.Step.{step_of}
use Rattle.mcs51_chip.proofs.laws.steps_are_taken.Goals as goal

pub returns-clause-some : goal.returns-clause-some
returns-clause-some c = λ image s. enough_choices 3 (step_of image s) (step_asks image s)

pub returns-clause-small : goal.returns-clause-small
returns-clause-small c = λ image s choices outcome. small_front 3 (step_of image s) (step_asks image s) choices [] outcome
