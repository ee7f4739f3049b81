use Rattle.value_set.proofs.Equal.{same_members}
use Rattle.value_set.proofs.sets.same_members.Goals as goal

pub returns : goal.returns
returns c = same_members c.args.modulus c.args.first.now c.args.second.now c.requires.first_normal c.requires.second_normal
    (λ v h. (c.requires.same v).0 h) (λ v h. (c.requires.same v).1 h)
