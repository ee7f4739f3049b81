use Rattle.std.proofs.Common.{◌∙◌, ap, subst, sym}
use Rattle.value_set.specs.Form.{Has}
use Rattle.value_set.specs.declared.form.Form.{Form}
use Rattle.chip_numbers.specs.Numbers.{sign_extended}
use Rattle.value_bits.specs.Sets.{sign_extend_set}
use Rattle.value_bits.proofs.Alone.{sign_alone}
use Rattle.value_bits.proofs.w16.sign_extend.Goals as goal

pub returns-clause-holds : goal.returns-clause-holds
returns-clause-holds c = λ x has. let value = c.from_form.ensures ∙ c.sign_extend_set.ensures ∙ ap sign_extend_set c.form.ensures.value in
    subst (λ (s : Form). Has 65536 s (sign_extended x)) (sym value) (c.bit_laws.ensures.sign x c.args.a.now c.form.ensures.normal has)

pub returns-clause-alone : goal.returns-clause-alone
returns-clause-alone c = λ x alone. c.from_form.ensures ∙ c.sign_extend_set.ensures ∙ sign_alone c.form.result x (c.form.ensures.value ∙ alone)
