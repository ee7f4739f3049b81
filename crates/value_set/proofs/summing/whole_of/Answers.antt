use Rattle.value_set.proofs.Wholes.{whole_signed, signed_whole}
use Rattle.value_set.proofs.summing.whole_of.Goals as goal

pub returns-then-is_whole : goal.returns-then-is_whole
returns-then-is_whole c = whole_signed c.args.modulus c.args.sign c.args.first.now c.args.second.now c.requires.first_normal c.requires.second_normal
    (c.is_whole.ensures c.if-is_whole.true)

pub returns-then-is_whole-2 : goal.returns-then-is_whole-2
returns-then-is_whole-2 c = signed_whole c.args.modulus c.args.sign c.args.first.now c.args.second.now c.requires.first_normal c.requires.second_normal
    (c.is_whole-2.ensures c.if-is_whole-2.true)
