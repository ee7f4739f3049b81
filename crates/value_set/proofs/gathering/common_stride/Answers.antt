use Rattle.std.proofs.Common.{arith}
use Rattle.std.proofs.lemmas.Grind.{common_steps}
use Rattle.value_set.proofs.Gathers.{gcd_below}
use Rattle.value_set.proofs.Gaps.{pushed, one_already}
use Rattle.value_set.proofs.gathering.common_stride.Goals as goal

pub loop-number-preserved : goal.loop-number-preserved
loop-number-preserved g c = record {
  so_far = let more = pushed g.N.Number.number c.args.list.now c.loop-number.number-index c.number.result c.number-item.result c.loop-number-test.true c.number-item.is c.number.ensures in
      rw more (grind (arith, common_steps));
  below = let low = gcd_below c.loop-number.stride c.above.result c.args.modulus c.loop-number.invariant.below c.above.ensures.around in omega (arith, low, c.greatest_common_divisor-stride.ensures);
}

pub returns-then-stride-eq1 : goal.returns-then-stride-eq1
returns-then-stride-eq1 g c = one_already g.N.Number.number c.args.modulus c.args.from c.loop-number.number-index c.loop-number.stride c.args.list.now
    c.loop-number.invariant.so_far c.if-stride-eq1.true
