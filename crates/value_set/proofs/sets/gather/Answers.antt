use Rattle.std.proofs.Common.{length}
use Rattle.value_set.proofs.Promises.{gathered_normal, gathered_holds, not_false}
use Rattle.value_set.proofs.sets.gather.Goals as goal

pub returns-in-Some-clause-normal : goal.returns-in-Some-clause-normal
returns-in-Some-clause-normal g c = gathered_normal g.N.Number.number c.args.modulus c.args.list.now c.in-Some.set c.in-Some.ensures.value c.requires.below
    (not_false (length c.args.list.now) c.in-Some.ensures.none)

pub returns-in-Some-clause-holds : goal.returns-in-Some-clause-holds
returns-in-Some-clause-holds g c = gathered_holds g.N.Number.number c.args.modulus c.args.list.now c.in-Some.set c.in-Some.ensures.value c.requires.below
    (not_false (length c.args.list.now) c.in-Some.ensures.none)
