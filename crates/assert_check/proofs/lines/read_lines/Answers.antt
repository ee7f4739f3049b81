use Rattle.std.proofs.Common.{[], Ok, ap, sym, ◌∙◌, append-nil, arith}
use Rattle.std.proofs.lemmas.Result.{err_from_is_err_and}
use Rattle.text_lines.specs.Lines.{lines_of, without_return}
use Rattle.assert_check.specs.Lines.{assertions_of}
use Rattle.assert_check.proofs.TextLemmas.{by_last, by_next, tells_text}
use Rattle.assert_check.proofs.lines.read_lines.Goals as goal

pub returns-in_err-push_line-clause-refused : goal.returns-in_err-push_line-clause-refused
returns-in_err-push_line-clause-refused c =
    let read = c.loop-line in
    let p = err_from_is_err_and c.from_residual.result c.from_residual.ensures.1 in
    rw (p.1, p.2) (tells_text c.args.spaces.now c.args.text.now (without_return c.in-Some.line.now) read.list.items read.count (lines_of c.in-Some.behind.now) c.in_err-push_line.field-0.0
    (by_next c.args.spaces.now read.list.items read.count read.rest.now (assertions_of c.args.spaces.now c.args.text.now) read.invariant.whole c.in-Some.line.now c.in-Some.behind.now
    (sym c.in-Some.ensures.parts)) (rw c.without_return.ensures at c.in_err-push_line.ensures.bad))

pub loop-line-preserved : goal.loop-line-preserved
loop-line-preserved c =
    let read = c.loop-line in
    let taken = rw c.without_return.ensures at c.in_ok-push_line.ensures.ok in
    record {
      whole = sym (taken (lines_of c.in-Some.behind.now))
          ∙ by_next c.args.spaces.now read.list.items read.count read.rest.now (assertions_of c.args.spaces.now c.args.text.now) read.invariant.whole
          c.in-Some.line.now c.in-Some.behind.now (sym c.in-Some.ensures.parts);
      count = omega (arith, c.in-Some.ensures.shorter, c.loop-line.invariant.count);
    }

pub returns-in_err-push_line-2-clause-refused : goal.returns-in_err-push_line-2-clause-refused
returns-in_err-push_line-2-clause-refused c =
    let read = c.loop-line in
    let p = err_from_is_err_and c.from_residual-in_err-push_line-2.result c.from_residual-in_err-push_line-2.ensures.1 in
    rw (p.1, p.2) (tells_text c.args.spaces.now c.args.text.now (without_return read.rest.now) read.list.items read.count [] c.in_err-push_line-2.field-0.0
    (by_last c.args.spaces.now read.list.items read.count read.rest.now (assertions_of c.args.spaces.now c.args.text.now) read.invariant.whole
    (sym c.in_default.ensures.parts)) (rw c.without_return-2.ensures at c.in_err-push_line-2.ensures.bad))

pub returns-clause-list : goal.returns-clause-list
returns-clause-list c =
    let read = c.loop-line in
    let taken = rw c.without_return-2.ensures at c.in_ok-push_line-2.ensures.ok in
    sym (by_last c.args.spaces.now read.list.items read.count read.rest.now (assertions_of c.args.spaces.now c.args.text.now) read.invariant.whole
    (sym c.in_default.ensures.parts)) ∙ taken [] ∙ ap Ok (append-nil c.push_line-2.new.list.items)
