use Rattle.std.proofs.Common.{ap, ◌∙◌}
use Rattle.promises.specs.Told.{has}
use Rattle.promises.proofs.Sets.{has-insert_key}
use Rattle.promises.proofs.told.add.Goals as goal

pub returns-clause-added : goal.returns-clause-added
returns-clause-added c = λ n.
    ap (λ keys. has keys n) c.in_ok-insert.ensures.keys ∙ has-insert_key c.args.set.now.keys c.args.number n
