use Rattle.std.proofs.Common.{◌+◌, ◌^◌, ◌∙◌, subst, sym}
use Rattle.value_set.specs.Form.{Has, IsNormal}
use Rattle.value_set.specs.declared.form.Form.{Form}
use Rattle.chip_numbers.specs.Numbers.{exchanged}
use Rattle.value_bits.proofs.Alone.{exchange_alone}
use Rattle.value_bits.proofs.results.exchange.Goals as goal

pub returns-clause-normal : goal.returns-clause-normal
returns-clause-normal c = subst (λ (s : Form). IsNormal (2 ^ (c.args.half + c.args.half)) s) (sym c.exchange_set.ensures)
    (c.bit_laws.ensures.exchange_normal c.args.half c.args.a.now c.requires.normal)

pub returns-clause-holds : goal.returns-clause-holds
returns-clause-holds c = λ x has. subst (λ (s : Form). Has (2 ^ (c.args.half + c.args.half)) s (exchanged (2 ^ c.args.half) x)) (sym c.exchange_set.ensures)
    (c.bit_laws.ensures.exchange c.args.half x c.args.a.now c.requires.normal has)

pub returns-clause-alone : goal.returns-clause-alone
returns-clause-alone c = λ x alone. c.exchange_set.ensures ∙ exchange_alone c.args.half c.args.a.now x alone
