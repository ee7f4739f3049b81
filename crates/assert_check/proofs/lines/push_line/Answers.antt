use Rattle.std.proofs.Common.{sym, ◌∙◌}
use Rattle.assert_check.proofs.TextLemmas.{one_more}
use Rattle.assert_check.proofs.lines.push_line.Goals as goal

pub returns-in-Ok-clause-ok : goal.returns-in-Ok-clause-ok
returns-in-Ok-clause-ok c = λ lines.
    one_more c.args.spaces.now c.args.list.now.items c.push.new.self.items c.args.count c.args.line.now c.in-Some.assertion
    (sym c.is_empty.ensures ∙ c.if-is_empty.false) c.in-Some.ensures c.in-Ok.ensures.items lines
