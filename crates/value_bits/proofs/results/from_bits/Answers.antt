use Rattle.std.proofs.Common.{◌^◌, subst, sym}
use Rattle.value_set.specs.Form.{Has, IsNormal}
use Rattle.value_set.specs.declared.form.Form.{Form}
use Rattle.value_bits.proofs.results.from_bits.Goals as goal

pub returns-clause-normal : goal.returns-clause-normal
returns-clause-normal c =
    subst (λ (s : Form). IsNormal (2 ^ c.args.width) s) (sym c.with_bits.ensures) (c.bit_laws.ensures.from_normal c.args.width c.args.bits.now c.requires.wide)

pub returns-clause-holds : goal.returns-clause-holds
returns-clause-holds c = λ v agrees.
    subst (λ (s : Form). Has (2 ^ c.args.width) s v) (sym c.with_bits.ensures) (c.bit_laws.ensures.from c.args.width v c.args.bits.now c.requires.wide agrees)
