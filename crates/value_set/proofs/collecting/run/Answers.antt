use Rattle.std.proofs.Common.{arith}
use Rattle.std.proofs.lemmas.Grind.{common_steps}
use Rattle.value_set.proofs.Promises.{run_exact}
use Rattle.value_set.proofs.collecting.run.Goals as goal

pub returns-clause-exact : goal.returns-clause-exact
returns-clause-exact c = λ v. run_exact c.args.modulus c.args.base c.args.stride c.args.count v c.make.result c.make.ensures.value
    (record { positive = c.requires.positive; some = omega arith; once = grind (arith, common_steps); strides = λ more. grind (arith, common_steps) })
