use Rattle.std.proofs.Common.{arith}
use Rattle.value_bits.proofs.Sharing.{walked_first, walked_second}
use Rattle.value_bits.proofs.order.+share.Goals as goal

pub returns-then-x-y-2 : goal.returns-then-x-y-2
returns-then-x-y-2 t c = walked_first 65536 c.args.xs.now c.args.ys.now c.share.result c.requires.ys_ascend c.if-x-y-2.true c.share.ensures

pub returns-else-x-y-2 : goal.returns-else-x-y-2
returns-else-x-y-2 t c = walked_second 65536 c.args.xs.now c.args.ys.now c.share-else-x-y-2.result c.requires.xs_ascend (omega (arith, c.if-x-y.false, c.if-x-y-2.false)) c.share-else-x-y-2.ensures
