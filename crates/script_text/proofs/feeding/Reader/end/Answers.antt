use Rattle.std.proofs.Common.{◌≡◌, ◌<◌, length, ◌∙◌, [], arith}
use Rattle.std.proofs.lemmas.Bool.Decides.{nat_tests}
use Rattle.std.proofs.lemmas.Result.{err_from_is_err_and}
use Rattle.script_text.proofs.TextLemmas.{count_lines, end_feed, end_line, tells_end}
use Rattle.script_text.proofs.feeding.Reader.end.Goals as goal

pub returns-then-is_empty-clause-numbers : goal.returns-then-is_empty-clause-numbers
returns-then-is_empty-clause-numbers c =
    let empty : length c.self.inside.line.items ≡ 0 = grind (arith, nat_tests, c.self.inside.line.ok.0) in
    rw (← c.self.view_is) (end_feed _ _ _ c.self.invariant empty)

pub returns-in_err-push_line-clause-bad : goal.returns-in_err-push_line-clause-bad
returns-in_err-push_line-clause-bad c = λ none.
    let p = err_from_is_err_and c.from_residual.result c.from_residual.ensures.1 in
    let some : 0 < length c.self.inside.line.items = grind (arith, nat_tests, c.self.inside.line.ok.0) in
    let count = count_lines (λ line. line.value.items) c.self.inside.lines.items _ _ c.len.ensures c.self.inside.lines.ok.0 in
    let tells = rw (c.without_return.ensures, c.deref.ensures.value) at c.in_err-push_line.ensures.bad in
    rw (← c.self.view_is, p.1, p.2) (tells_end _ _ _ _ _ c.self.invariant some count tells)

pub returns-clause-numbers : goal.returns-clause-numbers
returns-clause-numbers c =
    let some : 0 < length c.self.inside.line.items = grind (arith, nat_tests, c.self.inside.line.ok.0) in
    let count = count_lines (λ line. line.value.items) c.self.inside.lines.items _ _ c.len.ensures c.self.inside.lines.ok.0 in
    let takes = rw (c.without_return.ensures, c.deref.ensures.value, count) at c.in_ok-push_line.ensures.ok in
    rw (← c.self.view_is) (end_line _ _ _ c.self.invariant some ∙ takes [])
