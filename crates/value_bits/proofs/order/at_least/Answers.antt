use Rattle.std.proofs.Common.{◌≡◌, ◌*◌, ◌<◌, nat_le, subst, sym, arith}
use Rattle.value_set.specs.Summing.{count_of, single}
use Rattle.value_bits.specs.declared.tri.Tri.{Tri}
use Rattle.value_bits.specs.Flags.{IsFlag, agreed}
use Rattle.value_bits.proofs.Choosing.{single_has}
use Rattle.value_bits.proofs.Combinations.{agreed-many, agreed_is}
use Rattle.value_bits.proofs.Orders.{is_at_least}
use Rattle.value_bits.proofs.order.at_least.Goals as goal

pub returns-then-count-gt256-clause-value : goal.returns-then-count-gt256-clause-value
returns-then-count-gt256-clause-value c =
    let more : 256 < c.count.result * (c.count-2.result * 1) = omega arith in
    let many : 256 < count_of c.args.modulus c.args.first.now * (count_of c.args.modulus c.args.second.now * count_of c.args.modulus (single 0)) = rw (c.count.ensures.value, c.count-2.ensures.value) at more in
    sym (agreed-many c.args.modulus is_at_least c.args.first.now c.args.second.now (single 0) many)

pub returns-clause-holds : goal.returns-clause-holds
returns-clause-holds c = λ x y h k.
    let same : c.at_least_few.result ≡ agreed c.args.modulus is_at_least c.args.first.now c.args.second.now (single 0) = cc in
    subst (λ (t : Tri). IsFlag t (nat_le y x)) (sym same) (agreed_is c.args.modulus is_at_least c.args.first.now c.args.second.now (single 0) x y 0 h k (single_has c.args.modulus 0))
