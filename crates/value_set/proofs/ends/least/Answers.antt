use Rattle.value_set.proofs.EndsOfSets.{listed_least}
use Rattle.value_set.proofs.ends.least.Goals as goal

pub returns-in-Values : goal.returns-in-Values
returns-in-Values c = listed_least c.args.modulus c.args.set.now c.in-Values.values c.as_slice.result.now c.in-Values.is c.as_slice.ensures.numbers
