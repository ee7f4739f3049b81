use Rattle.std.proofs.Common.{[], sym, ◌∙◌, arith}
use Rattle.std.proofs.lemmas.Result.{err_from_is_err_and}
use Rattle.promises.proofs.Text.{ended, ended_last, missing_last, next_cut, next_last, one_more, tells_text}
use Rattle.promises.proofs.reading.read_promises.Goals as goal

pub returns-then-is_end-clause-read : goal.returns-then-is_end-clause-read
returns-then-is_end-clause-read g c =
    let at = c.loop-line in
    let next = next_cut at.rest.now c.without_return-whole.result.now c.in-Some.line.now c.in-Some.behind.now c.without_return-whole.ensures
    (sym c.in-Some.ensures.parts) in
    ended (g.S.Spoken.spoken c.args.image.now) c.args.text.now at.reading.list.items at.count at.rest.now at.invariant.read
    c.without_return-whole.result.now c.in-Some.behind.now next (sym c.is_end.ensures ∙ c.if-is_end.true)

pub returns-in_err-read_line-clause-refused : goal.returns-in_err-read_line-clause-refused
returns-in_err-read_line-clause-refused g c =
    let at = c.loop-line in
    let next = next_cut at.rest.now c.without_return-whole.result.now c.in-Some.line.now c.in-Some.behind.now c.without_return-whole.ensures
    (sym c.in-Some.ensures.parts) in
    let p = err_from_is_err_and c.from_residual.result c.from_residual.ensures.1 in
    rw (p.1, p.2) (tells_text (g.S.Spoken.spoken c.args.image.now) c.args.text.now at.reading.list.items at.count at.rest.now at.invariant.read
    c.without_return-whole.result.now c.in-Some.behind.now next (sym c.is_end.ensures ∙ c.if-is_end.false) c.in_err-read_line.field-0.0
    c.in_err-read_line.ensures.bad)

pub loop-line-preserved : goal.loop-line-preserved
loop-line-preserved g c =
    let at = c.loop-line in
    let next = next_cut at.rest.now c.without_return-whole.result.now c.in-Some.line.now c.in-Some.behind.now c.without_return-whole.ensures
    (sym c.in-Some.ensures.parts) in
    record {
      told = c.in_ok-read_line.ensures.told;
      read = one_more (g.S.Spoken.spoken c.args.image.now) c.args.text.now at.reading.list.items at.count at.rest.now at.invariant.read
          c.without_return-whole.result.now c.in-Some.behind.now next (sym c.is_end.ensures ∙ c.if-is_end.false)
          c.read_line.new.self.list.items c.in_ok-read_line.ensures.list;
      count = omega (arith, c.in-Some.ensures.shorter, at.invariant.count);
    }

pub returns-then-is_end-2-clause-read : goal.returns-then-is_end-2-clause-read
returns-then-is_end-2-clause-read g c =
    let at = c.loop-line in
    let next = next_last at.rest.now c.without_return-last.result.now c.without_return-last.ensures (sym c.in_default.ensures.parts)
    (sym c.is_empty.ensures ∙ c.if-is_empty.false) in
    ended_last (g.S.Spoken.spoken c.args.image.now) c.args.text.now at.reading.list.items at.count at.rest.now at.invariant.read
    c.without_return-last.result.now next (sym c.is_end-2.ensures ∙ c.if-is_end-2.true)

pub returns-in_err-read_line-2-clause-refused : goal.returns-in_err-read_line-2-clause-refused
returns-in_err-read_line-2-clause-refused g c =
    let at = c.loop-line in
    let next = next_last at.rest.now c.without_return-last.result.now c.without_return-last.ensures (sym c.in_default.ensures.parts)
    (sym c.is_empty.ensures ∙ c.if-is_empty.false) in
    let p = err_from_is_err_and c.from_residual-in_err-read_line-2.result c.from_residual-in_err-read_line-2.ensures.1 in
    rw (p.1, p.2) (tells_text (g.S.Spoken.spoken c.args.image.now) c.args.text.now at.reading.list.items at.count at.rest.now at.invariant.read
    c.without_return-last.result.now [] next (sym c.is_end-2.ensures ∙ c.if-is_end-2.false) c.in_err-read_line-2.field-0.0
    c.in_err-read_line-2.ensures.bad)

pub returns-clause-refused : goal.returns-clause-refused
returns-clause-refused g c =
    let at = c.loop-line in
    let next = next_last at.rest.now c.without_return-last.result.now c.without_return-last.ensures (sym c.in_default.ensures.parts)
    (sym c.is_empty.ensures ∙ c.if-is_empty.false) in
    missing_last (g.S.Spoken.spoken c.args.image.now) c.args.text.now at.reading.list.items at.count at.rest.now at.invariant.read
    c.without_return-last.result.now next (sym c.is_end-2.ensures ∙ c.if-is_end-2.false)
    c.read_line-2.new.self.list.items c.in_ok-read_line-2.ensures.list
