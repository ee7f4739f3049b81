use Rattle.std.proofs.Common.{sym, ◌∙◌, subst}
use Rattle.std.proofs.Math.Path.{ap₂}
use Rattle.value_set.specs.Form.{Has, IsNormal}
use Rattle.value_set.specs.declared.form.Form.{Form}
use Rattle.chip_numbers.specs.Numbers.{word_of}
use Rattle.value_bits.specs.Sets.{pair_set}
use Rattle.value_bits.proofs.HalfSets.{pair_one}
use Rattle.value_bits.proofs.w16.pair.Goals as goal

pub returns-in-Some-Some-clause-value : goal.returns-in-Some-Some-clause-value
returns-in-Some-Some-clause-value c = c.one.ensures.value ∙ sym (pair_one c.in-Some-Some.x c.in-Some-Some.y)
    ∙ ap₂ pair_set (sym c.in-Some-Some.ensures ∙ c.form.ensures.value) (sym c.in-Some-Some.ensures' ∙ c.form-2.ensures.value)

pub returns-in_default-clause-normal : goal.returns-in_default-clause-normal
returns-in_default-clause-normal c = subst (λ (s : Form). IsNormal 65536 s) (sym c.pair_of_several.ensures)
    (c.bit_laws.ensures.pair_normal c.args.low.now c.args.high.now c.form.ensures.normal c.form-2.ensures.normal)

pub returns-in_default-clause-holds : goal.returns-in_default-clause-holds
returns-in_default-clause-holds c = λ x y has too. subst (λ (s : Form). Has 65536 s (word_of x y)) (sym c.pair_of_several.ensures)
    (c.bit_laws.ensures.pair x y c.args.low.now c.args.high.now c.form.ensures.normal c.form-2.ensures.normal has too)

pub returns-in_default-clause-alone : goal.returns-in_default-clause-alone
returns-in_default-clause-alone c = λ x y alone too. c.pair_of_several.ensures ∙ ap₂ pair_set alone too ∙ pair_one x y
