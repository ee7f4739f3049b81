use Rattle.value_bits.proofs.Orders.{order_set, order_clear, order_open}
use Rattle.value_bits.proofs.order.at_least_few.Goals as goal

pub returns-then-greatest-least : goal.returns-then-greatest-least
returns-then-greatest-least c = order_set c.args.modulus c.args.first.now c.args.second.now c.least.result c.greatest.result c.requires.few
    c.least.ensures.first c.greatest.ensures.last c.if-greatest-least.true

pub returns-then-greatest-least-2 : goal.returns-then-greatest-least-2
returns-then-greatest-least-2 c = order_clear c.args.modulus c.args.first.now c.args.second.now
    c.greatest-else-greatest-least.result c.least-else-greatest-least.result c.requires.first_normal c.requires.second_normal c.requires.few
    c.greatest-else-greatest-least.ensures.last c.least-else-greatest-least.ensures.first c.if-greatest-least-2.true

pub returns-else-greatest-least-2 : goal.returns-else-greatest-least-2
returns-else-greatest-least-2 c = order_open c.args.modulus c.args.first.now c.args.second.now
    c.least.result c.greatest-else-greatest-least.result c.least-else-greatest-least.result c.greatest.result
    c.least.ensures.member c.greatest-else-greatest-least.ensures.member c.least-else-greatest-least.ensures.member c.greatest.ensures.member
    c.if-greatest-least.false c.if-greatest-least-2.false
