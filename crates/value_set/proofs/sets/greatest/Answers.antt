use Rattle.value_set.proofs.Answering.{member_below}
use Rattle.value_set.proofs.EndsOfSets.{greatest_has, greatest_last}
use Rattle.value_set.proofs.sets.greatest.Goals as goal

pub returns-clause-member : goal.returns-clause-member
returns-clause-member c = rw c.greatest.ensures (greatest_has c.args.modulus c.args.set.now c.requires.normal)

pub returns-clause-last : goal.returns-clause-last
returns-clause-last c = λ v has. rw c.greatest.ensures (greatest_last c.args.modulus v c.args.set.now c.requires.normal has)

pub returns-clause-below : goal.returns-clause-below
returns-clause-below c = rw c.greatest.ensures (member_below c.args.modulus _ c.args.set.now c.requires.normal (greatest_has c.args.modulus c.args.set.now c.requires.normal))
