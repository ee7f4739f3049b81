use Rattle.std.proofs.Common.{arith}
use Rattle.std.proofs.lemmas.Bool.{iff_false}
use Rattle.value_bits.proofs.Sharing.{list_ascends, equal_clear, equal_set, equal_open}
use Rattle.value_bits.proofs.order.equal_lists.Goals as goal

pub share-requires-clause-xs_ascend : goal.share-requires-clause-xs_ascend
share-requires-clause-xs_ascend c = list_ascends c.args.modulus c.args.xs.now c.requires.small c.requires.first_normal

pub share-requires-clause-ys_ascend : goal.share-requires-clause-ys_ascend
share-requires-clause-ys_ascend c = list_ascends c.args.modulus c.args.ys.now c.requires.small c.requires.second_normal

pub returns-then-not-share : goal.returns-then-not-share
returns-then-not-share c = equal_clear c.args.modulus c.args.xs.now c.args.ys.now c.requires.first_normal c.requires.second_normal
    (iff_false c.share.ensures c.if-not-share.true)

pub returns-then-xs-ys-eq2 : goal.returns-then-xs-ys-eq2
returns-then-xs-ys-eq2 c = let some = c.requires.first_normal.0 in let too = c.requires.second_normal.0 in
    equal_set c.args.modulus c.args.xs.now c.args.ys.now (omega arith) (omega arith) (c.share.ensures.0 c.if-not-share.false)

pub returns-else-xs-ys-eq2 : goal.returns-else-xs-ys-eq2
returns-else-xs-ys-eq2 c = let some = c.requires.first_normal.0 in let too = c.requires.second_normal.0 in
    equal_open c.args.modulus c.args.xs.now c.args.ys.now c.requires.first_normal c.requires.second_normal (omega arith) (c.share.ensures.0 c.if-not-share.false)
