use Rattle.value_set.proofs.Answering.{member_below}
use Rattle.value_set.proofs.EndsOfSets.{least_has, least_first}
use Rattle.value_set.proofs.sets.least.Goals as goal

pub returns-clause-member : goal.returns-clause-member
returns-clause-member c = rw c.least.ensures (least_has c.args.modulus c.args.set.now c.requires.normal)

pub returns-clause-first : goal.returns-clause-first
returns-clause-first c = λ v has. rw c.least.ensures (least_first c.args.modulus v c.args.set.now c.requires.normal has)

pub returns-clause-below : goal.returns-clause-below
returns-clause-below c = rw c.least.ensures (member_below c.args.modulus _ c.args.set.now c.requires.normal (least_has c.args.modulus c.args.set.now c.requires.normal))
