use Rattle.std.proofs.Common.{arith}
use Rattle.value_bits.proofs.Combinations.{run_count}
use Rattle.value_bits.proofs.listing.listed.Goals as goal

pub stepped-requires-clause-few : goal.stepped-requires-clause-few
stepped-requires-clause-few c = omega (arith, c.requires.few, run_count c.args.modulus c.args.set.now c.in-Run.run' c.in-Run.is)
