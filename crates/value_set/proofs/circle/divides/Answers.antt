use Rattle.std.proofs.lemmas.Bool.{eqb-true, eq-eqb}
use Rattle.std.proofs.Math.Nat.{dvd_of_mod-eq-zero, mod-eq-zero_of_dvd}
use Rattle.value_set.proofs.circle.divides.Goals as goal

pub returns : goal.returns
returns c = (λ t. dvd_of_mod-eq-zero c.args.divisor (eqb-true _ _ t), λ h. eq-eqb _ _ (mod-eq-zero_of_dvd c.args.divisor h))
