use Rattle.std.proofs.Common.{subst, sym, ◌∙◌, ◌+◌, ◌%◌}
use Rattle.value_set.specs.declared.form.Form.{Form}
use Rattle.value_set.specs.Form.{Has, IsNormal}
use Rattle.value_set.proofs.Sums.{add_normal, add_has}
use Rattle.value_set.proofs.Singles.{add_one}
use Rattle.value_set.proofs.sets.add.Goals as goal

pub returns-clause-normal : goal.returns-clause-normal
returns-clause-normal c = subst (λ (set : Form). IsNormal c.args.modulus set) (sym c.signed_sum.ensures)
    (add_normal c.args.modulus c.args.first.now c.args.second.now c.requires.first_normal c.requires.second_normal)

pub returns-clause-holds : goal.returns-clause-holds
returns-clause-holds c x y h k = subst (λ (set : Form). Has c.args.modulus set ((x + y) % c.args.modulus)) (sym c.signed_sum.ensures)
    (add_has c.args.modulus c.args.first.now c.args.second.now x y c.requires.first_normal c.requires.second_normal h k)

pub returns-clause-alone : goal.returns-clause-alone
returns-clause-alone c x y h k = c.signed_sum.ensures ∙ add_one c.args.modulus c.args.first.now c.args.second.now x y h k
