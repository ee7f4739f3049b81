use Rattle.std.proofs.Common.{arith}
use Rattle.value_set.proofs.Sums.{some_members}
use Rattle.value_set.proofs.Promises.{not_more_than_all}
use Rattle.value_set.proofs.sets.count.Goals as goal

pub returns-clause-some : goal.returns-clause-some
returns-clause-some c = omega (arith, some_members c.args.modulus c.args.set.now c.requires.normal, c.count.ensures)

pub returns-clause-most : goal.returns-clause-most
returns-clause-most c = omega (arith, not_more_than_all c.args.modulus c.args.set.now c.requires.normal, c.count.ensures)
