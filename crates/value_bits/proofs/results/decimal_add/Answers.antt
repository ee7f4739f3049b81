use Rattle.std.proofs.Common.{◌^◌, ◌∙◌, subst, sym}
use Rattle.value_set.specs.Form.{Has, IsNormal}
use Rattle.value_set.specs.declared.form.Form.{Form}
use Rattle.chip_numbers.specs.Numbers.{decimal_sum}
use Rattle.value_bits.proofs.Alone.{decimal_alone}
use Rattle.value_bits.proofs.results.decimal_add.Goals as goal

pub returns-clause-normal : goal.returns-clause-normal
returns-clause-normal c = subst (λ (s : Form). IsNormal (16 ^ c.args.digits) s) (sym c.decimal_add_set.ensures)
    (c.bit_laws.ensures.decimal_normal c.args.digits c.args.a.now c.args.b.now c.args.carry c.requires.first_normal c.requires.second_normal)

pub returns-clause-holds : goal.returns-clause-holds
returns-clause-holds c = λ x y bit has too is first second. subst (λ (s : Form). Has (16 ^ c.args.digits) s (decimal_sum c.args.digits x y bit)) (sym c.decimal_add_set.ensures)
    (c.bit_laws.ensures.decimal c.args.digits x y bit c.args.a.now c.args.b.now c.args.carry c.requires.first_normal c.requires.second_normal has too is)

pub returns-clause-free : goal.returns-clause-free
returns-clause-free c = λ x y v has too unclear below. subst (λ (s : Form). Has (16 ^ c.args.digits) s v) (sym c.decimal_add_set.ensures)
    (c.bit_laws.ensures.decimal_free c.args.digits x y v c.args.a.now c.args.b.now c.args.carry has too unclear below)

pub returns-clause-alone : goal.returns-clause-alone
returns-clause-alone c = λ x y bit alone too known small first second.
    c.decimal_add_set.ensures ∙ decimal_alone c.args.digits c.args.a.now c.args.b.now c.args.carry x y bit alone too known small first second
