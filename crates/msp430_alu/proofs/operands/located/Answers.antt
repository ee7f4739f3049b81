use Rattle.std.proofs.Common.{sym, ap, ◌∙◌, subst}
use Rattle.value_set.specs.Form.{Has}
use Rattle.msp430_alu.specs.Memory.{canonical, located}
use Rattle.msp430_alu.proofs.WhereAccesses.{located_fits}
use Rattle.msp430_alu.proofs.operands.located.Goals as goal

pub returns-in-Word-clause-fits : goal.returns-in-Word-clause-fits
returns-in-Word-clause-fits c = λ v h.
    let device = c.args.device.now in
    let set = c.args.set.now in
    let same = c.canonical.ensures ∙ ap (canonical device) c.even_parts.ensures ∙ sym (ap (λ width. located device width set) c.in-Word.is) in
    located_fits c.instruction_laws.ensures device c.requires c.args.width set v c.form-form.ensures.normal (subst (λ f. Has 65536 f v) same h)

pub returns-in-Byte-clause-fits : goal.returns-in-Byte-clause-fits
returns-in-Byte-clause-fits c = λ v h.
    let device = c.args.device.now in
    let set = c.args.set.now in
    let same = c.canonical-in-Byte.ensures ∙ sym (ap (λ width. located device width set) c.in-Byte.is) in
    located_fits c.instruction_laws.ensures device c.requires c.args.width set v c.form-form.ensures.normal (subst (λ f. Has 65536 f v) same h)
