use Rattle.std.proofs.Common.{◌∙◌, sym}
use Rattle.value_set.proofs.EndsOfSets.{greatest-straight, greatest-turned}
use Rattle.value_set.proofs.ends.greatest_of_run.Goals as goal

pub returns-then-last-modulus : goal.returns-then-last-modulus
returns-then-last-modulus c = c.last_of-last.ensures
    ∙ sym (greatest-straight c.args.modulus c.args.run.now (rw c.last_of-last.ensures at c.if-last-modulus.true))

pub returns : goal.returns
returns c = c.last_before_turn.ensures
    ∙ sym (greatest-turned c.args.modulus c.args.run.now (rw c.last_of-last.ensures at c.if-last-modulus.false))
