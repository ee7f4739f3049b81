use Rattle.std.proofs.Common.{◌+◌, ◌^◌, ◌∙◌, subst, sym}
use Rattle.value_set.specs.Form.{Has, IsNormal}
use Rattle.value_set.specs.declared.form.Form.{Form}
use Rattle.chip_numbers.specs.Numbers.{shifted_right}
use Rattle.value_bits.proofs.Alone.{shift_alone}
use Rattle.value_bits.proofs.results.shift_right.Goals as goal

pub returns-clause-normal : goal.returns-clause-normal
returns-clause-normal c =
    subst (λ (s : Form). IsNormal (2 ^ (c.args.place + 1)) s) (sym c.shift_set.ensures) (c.bit_laws.ensures.shift_normal c.args.place c.args.a.now c.args.top c.requires.normal)

pub returns-clause-holds : goal.returns-clause-holds
returns-clause-holds c = λ x bit has is. subst (λ (s : Form). Has (2 ^ (c.args.place + 1)) s (shifted_right c.args.place x bit)) (sym c.shift_set.ensures)
    (c.bit_laws.ensures.shift c.args.place x bit c.args.a.now c.args.top c.requires.normal has is)

pub returns-clause-alone : goal.returns-clause-alone
returns-clause-alone c = λ x bit alone one is. c.shift_set.ensures ∙ shift_alone c.args.place c.args.top c.args.a.now x bit alone one is
