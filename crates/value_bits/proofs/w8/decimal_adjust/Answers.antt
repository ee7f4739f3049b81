use Rattle.std.proofs.Common.{◌∙◌, ap, subst, sym}
use Rattle.value_set.specs.Form.{Has}
use Rattle.value_set.specs.declared.form.Form.{Form}
use Rattle.chip_numbers.specs.Numbers.{decimal_adjusted}
use Rattle.value_bits.specs.Sets.{decimal_adjust_set}
use Rattle.value_bits.proofs.Alone.{adjust_alone}
use Rattle.value_bits.proofs.w8.decimal_adjust.Goals as goal

pub returns-clause-holds : goal.returns-clause-holds
returns-clause-holds c = λ x y z has is too.
    let value = c.from_form.ensures ∙ c.decimal_adjust_set.ensures ∙ ap (λ (s : Form). decimal_adjust_set s c.args.carry c.args.half) c.form.ensures.value in
    subst (λ (s : Form). Has 256 s (decimal_adjusted x y z)) (sym value) (c.bit_laws.ensures.adjust x y z c.args.a.now c.args.carry c.args.half c.form.ensures.normal has is too)

pub returns-clause-alone : goal.returns-clause-alone
returns-clause-alone c = λ x y z alone known small other less.
    c.from_form.ensures ∙ c.decimal_adjust_set.ensures ∙ adjust_alone c.form.result c.args.carry c.args.half x y z (c.form.ensures.value ∙ alone) known small other less
