use Rattle.value_set.proofs.EndsOfSets.{listed_greatest}
use Rattle.value_set.proofs.ends.greatest.Goals as goal

pub returns-in-Values : goal.returns-in-Values
returns-in-Values c =
    listed_greatest c.args.modulus c.len.result c.args.set.now c.in-Values.values c.as_slice.result.now c.in-Values.is c.as_slice.ensures.numbers c.len.ensures.length
