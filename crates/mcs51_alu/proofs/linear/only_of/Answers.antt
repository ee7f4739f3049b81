use Rattle.std.proofs.Common.{Some, sym, ap, ◌∙◌}
use Rattle.mcs51_alu.proofs.OnlyBytes.{only_counted}
use Rattle.mcs51_alu.proofs.linear.only_of.Goals as goal

pub returns-then-count-eq1 : goal.returns-then-count-eq1
returns-then-count-eq1 c = ap Some c.nth.ensures ∙ sym (only_counted c.args.set.now c.form-form.ensures.normal (sym c.count.ensures.value ∙ c.if-count-eq1.true))
