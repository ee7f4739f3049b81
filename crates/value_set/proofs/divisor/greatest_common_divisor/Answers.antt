use Rattle.std.proofs.Common.{arith, refl}
use Rattle.value_set.proofs.Divisors.{gcd-step, gcd-zero}
use Rattle.value_set.proofs.Gathers.{gcd_turned}
use Rattle.value_set.proofs.divisor.greatest_common_divisor.Goals as goal
use Rattle.value_set.proofs.divisor.greatest_common_divisor.Goals.{then-a-b, else-a-b}

pub loop-b-init : goal.loop-b-init
loop-b-init c = elim c.if-a-b.branch [
  | then-a-b w ↦ rw (w.a-is, w.b-is) (gcd_turned c.args.a c.args.b w.if-a-b.true)
  | else-a-b w ↦ rw (w.a-is, w.b-is) refl
]

pub loop-b-preserved : goal.loop-b-preserved
loop-b-preserved c = grind (arith, gcd-step)

pub returns : goal.returns
returns c = grind (arith, gcd-zero)
