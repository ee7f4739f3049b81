use Rattle.std.proofs.Common.{sym, ◌∙◌, ap, subst}
use Rattle.value_set.specs.Form.{Has, IsNormal}
use Rattle.value_set.specs.declared.form.Form.{Form}
use Rattle.chip_numbers.specs.Numbers.{low_byte}
use Rattle.value_bits.specs.Sets.{low_set}
use Rattle.value_bits.proofs.HalfSets.{low_one}
use Rattle.value_bits.proofs.w16.low.Goals as goal

pub returns-in-Some-clause-value : goal.returns-in-Some-clause-value
returns-in-Some-clause-value c = c.one.ensures.value ∙ sym (low_one c.in-Some.word) ∙ ap low_set (sym c.in-Some.ensures ∙ c.form.ensures.value)

pub returns-in-None-clause-normal : goal.returns-in-None-clause-normal
returns-in-None-clause-normal c =
    subst (λ (s : Form). IsNormal 256 s) (sym c.low_of_several.ensures) (c.bit_laws.ensures.low_normal c.args.a.now c.form.ensures.normal)

pub returns-in-None-clause-holds : goal.returns-in-None-clause-holds
returns-in-None-clause-holds c = λ x has.
    subst (λ (s : Form). Has 256 s (low_byte x)) (sym c.low_of_several.ensures) (c.bit_laws.ensures.low x c.args.a.now c.form.ensures.normal has)

pub returns-in-None-clause-alone : goal.returns-in-None-clause-alone
returns-in-None-clause-alone c = λ x alone. c.low_of_several.ensures ∙ ap low_set alone ∙ low_one x
