use Rattle.std.proofs.Common.{subst, sym, ◌∙◌, ◌+◌, ◌%◌}
use Rattle.value_set.specs.declared.form.Form.{Form}
use Rattle.value_set.specs.Form.{Has, IsNormal}
use Rattle.value_set.proofs.Sums.{twice_normal, twice_has}
use Rattle.value_set.proofs.Singles.{twice_one}
use Rattle.value_set.proofs.sets.twice.Goals as goal

pub returns-clause-normal : goal.returns-clause-normal
returns-clause-normal c = subst (λ (set : Form). IsNormal c.args.modulus set) (sym c.twice.ensures) (twice_normal c.args.modulus c.args.set.now c.requires.normal)

pub returns-clause-holds : goal.returns-clause-holds
returns-clause-holds c x h = subst (λ (set : Form). Has c.args.modulus set ((x + x) % c.args.modulus)) (sym c.twice.ensures)
    (twice_has c.args.modulus c.args.set.now x c.requires.normal h)

pub returns-clause-alone : goal.returns-clause-alone
returns-clause-alone c x h = c.twice.ensures ∙ twice_one c.args.modulus c.args.set.now x h
