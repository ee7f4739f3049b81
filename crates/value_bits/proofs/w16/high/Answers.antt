use Rattle.std.proofs.Common.{sym, ◌∙◌, ap, subst}
use Rattle.value_set.specs.Form.{Has, IsNormal}
use Rattle.value_set.specs.declared.form.Form.{Form}
use Rattle.chip_numbers.specs.Numbers.{high_byte}
use Rattle.value_bits.specs.Sets.{high_set}
use Rattle.value_bits.proofs.HalfSets.{high_one}
use Rattle.value_bits.proofs.w16.high.Goals as goal

pub returns-in-Some-clause-value : goal.returns-in-Some-clause-value
returns-in-Some-clause-value c = c.one.ensures.value ∙ sym (high_one c.in-Some.word) ∙ ap high_set (sym c.in-Some.ensures ∙ c.form.ensures.value)

pub returns-in-None-clause-normal : goal.returns-in-None-clause-normal
returns-in-None-clause-normal c =
    subst (λ (s : Form). IsNormal 256 s) (sym c.high_of_several.ensures) (c.bit_laws.ensures.high_normal c.args.a.now c.form.ensures.normal)

pub returns-in-None-clause-holds : goal.returns-in-None-clause-holds
returns-in-None-clause-holds c = λ x has.
    subst (λ (s : Form). Has 256 s (high_byte x)) (sym c.high_of_several.ensures) (c.bit_laws.ensures.high x c.args.a.now c.form.ensures.normal has)

pub returns-in-None-clause-alone : goal.returns-in-None-clause-alone
returns-in-None-clause-alone c = λ x alone. c.high_of_several.ensures ∙ ap high_set alone ∙ high_one x
