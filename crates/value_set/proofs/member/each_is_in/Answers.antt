use Rattle.std.proofs.Common.{arith}
use Rattle.value_set.proofs.Answering.{never, always, denied, each_more, each_all, each_fails, nth_below}
use Rattle.value_set.proofs.member.each_is_in.Goals as goal

pub has-requires-clause-below : goal.has-requires-clause-below
has-requires-clause-below c = nth_below c.args.modulus c.loop-place.place c.nth.result c.args.smaller.now c.requires.normal (omega arith) c.nth.ensures.value

pub loop-place-preserved : goal.loop-place-preserved
loop-place-preserved c = each_more c.args.modulus c.loop-place.place c.args.smaller.now c.args.larger.now c.nth.result c.loop-place.invariant c.nth.ensures.value
    (c.has.ensures.0 cc)

pub returns : goal.returns
returns c = always _ (each_all c.args.modulus c.loop-place.place c.args.smaller.now c.args.larger.now (omega arith) c.loop-place.invariant)

pub returns-then-not-has : goal.returns-then-not-has
returns-then-not-has c = never _ (each_fails c.args.modulus c.loop-place.place c.nth.result c.args.smaller.now c.args.larger.now (omega arith) c.nth.ensures.value
    (denied _ _ c.has.ensures cc))
