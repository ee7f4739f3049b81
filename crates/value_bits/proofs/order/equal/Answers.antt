use Rattle.std.proofs.Common.{◌≡◌, subst, sym}
use Rattle.std.specs.Prelude.{◌==◌}
use Rattle.value_set.specs.Summing.{single}
use Rattle.value_bits.specs.declared.tri.Tri.{Tri}
use Rattle.value_bits.specs.Flags.{IsFlag, agreed}
use Rattle.value_bits.proofs.Choosing.{single_has}
use Rattle.value_bits.proofs.Combinations.{agreed_is}
use Rattle.value_bits.proofs.Sharing.{is_equal}
use Rattle.value_bits.proofs.order.equal.Goals as goal

pub returns-in-Values-Values-clause-holds : goal.returns-in-Values-Values-clause-holds
returns-in-Values-Values-clause-holds c = λ x y h k.
    let same : c.equal_lists.result ≡ agreed c.args.modulus is_equal c.args.first.now c.args.second.now (single 0) = cc in
    subst (λ (t : Tri). IsFlag t (x == y)) (sym same) (agreed_is c.args.modulus is_equal c.args.first.now c.args.second.now (single 0) x y 0 h k (single_has c.args.modulus 0))
