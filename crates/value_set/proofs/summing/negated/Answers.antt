use Rattle.std.proofs.Common.{ap, ◌+◌, ◌%◌}
use Rattle.value_set.proofs.Sums.{negated_made}
use Rattle.value_set.proofs.summing.negated.Goals as goal

pub returns-clause-value : goal.returns-clause-value
returns-clause-value c = negated_made c.args.modulus _ c.args.run.now (ap (λ n. (c.args.run.now.base + n) % c.args.modulus) c.reach.ensures)
