use Rattle.std.proofs.Common.{subst, sym}
use Rattle.value_set.specs.declared.form.Form.{Form}
use Rattle.value_set.specs.Form.{Includes}
use Rattle.value_set.proofs.Joins.{join_includes_first, join_includes_second}
use Rattle.value_set.proofs.Merges.{joined_normal}
use Rattle.value_set.proofs.sets.join.Goals as goal

pub returns-clause-normal : goal.returns-clause-normal
returns-clause-normal c = joined_normal c.args.modulus c.args.first.now c.args.second.now c.join.result c.requires.first_normal c.requires.second_normal c.join.ensures

pub returns-clause-own : goal.returns-clause-own
returns-clause-own c = subst (λ (set : Form). Includes c.args.modulus set c.args.first.now) (sym c.join.ensures)
    (join_includes_first c.args.modulus c.args.first.now c.args.second.now c.requires.first_normal c.requires.second_normal)

pub returns-clause-others : goal.returns-clause-others
returns-clause-others c = subst (λ (set : Form). Includes c.args.modulus set c.args.second.now) (sym c.join.ensures)
    (join_includes_second c.args.modulus c.args.first.now c.args.second.now c.requires.first_normal c.requires.second_normal)
