use Rattle.std.proofs.Common.{◌^◌, ◌∙◌, subst, sym}
use Rattle.value_set.specs.Form.{Has, IsNormal}
use Rattle.value_set.specs.declared.form.Form.{Form}
use Rattle.value_bits.specs.Bits.{logic_of}
use Rattle.value_bits.proofs.Alone.{logic_alone}
use Rattle.value_bits.proofs.results.logic.Goals as goal

pub returns-clause-normal : goal.returns-clause-normal
returns-clause-normal c = subst (λ (s : Form). IsNormal (2 ^ c.args.width) s) (sym c.logic_set.ensures)
    (c.bit_laws.ensures.logic_normal c.args.width c.args.logic c.args.a.now c.args.b.now c.requires.first_normal c.requires.second_normal)

pub returns-clause-holds : goal.returns-clause-holds
returns-clause-holds c = λ x y has too. subst (λ (s : Form). Has (2 ^ c.args.width) s (logic_of c.args.logic x y)) (sym c.logic_set.ensures)
    (c.bit_laws.ensures.logic c.args.width x y c.args.logic c.args.a.now c.args.b.now c.requires.first_normal c.requires.second_normal has too)

pub returns-clause-alone : goal.returns-clause-alone
returns-clause-alone c = λ x y alone too. c.logic_set.ensures ∙ logic_alone c.args.width c.args.logic c.args.a.now c.args.b.now x y alone too
