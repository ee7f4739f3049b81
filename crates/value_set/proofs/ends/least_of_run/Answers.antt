use Rattle.std.proofs.Common.{◌+◌, ◌-◌, ◌∙◌, ap, sym}
use Rattle.value_set.proofs.EndsOfSets.{least-straight, least-turned}
use Rattle.value_set.proofs.ends.least_of_run.Goals as goal

pub returns-then-last_of-modulus : goal.returns-then-last_of-modulus
returns-then-last_of-modulus c = sym (least-straight c.args.modulus c.args.run.now (rw c.last_of.ensures at c.if-last_of-modulus.true))

pub returns : goal.returns
returns c = ap (λ n. n + c.args.run.now.stride - c.args.modulus) c.last_before_turn.ensures
    ∙ sym (least-turned c.args.modulus c.args.run.now (rw c.last_of.ensures at c.if-last_of-modulus.false))
