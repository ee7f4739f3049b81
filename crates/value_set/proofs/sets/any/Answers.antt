use Rattle.value_set.proofs.Promises.{any_has}
use Rattle.value_set.proofs.sets.any.Goals as goal

pub returns-clause-all : goal.returns-clause-all
returns-clause-all c v h = any_has c.args.modulus v c.make.result c.make.ensures.value c.requires.positive h
