use Rattle.std.proofs.lemmas.List.{take_rest}
use Rattle.std.proofs.lemmas.Result.{err_from_is_err_and}
use Rattle.ihex_read.proofs.AloneLemmas.{shape_first, content_next, whole_record}
use Rattle.ihex_read.proofs.record.parse.Goals as goal

pub returns-in_err-count-clause-fault : goal.returns-in_err-count-clause-fault
returns-in_err-count-clause-fault c = let p = err_from_is_err_and c.from_residual.result c.from_residual.ensures.1 in let h = c.in_err-count.ensures.fault in
    rw (p.1, p.2) (shape_first c.args.line.now _ _ (take_rest c.args.line.now 1) c.if-line-ne58.false h)

pub returns-in-Some-clause-fault : goal.returns-in-Some-clause-fault
returns-in-Some-clause-fault c = content_next c.args.line.now _ _ _ (take_rest c.args.line.now 1) c.if-line-ne58.false
    c.in_ok-count.ensures.fault c.in_ok-count.ensures.bytes c.in-Some.ensures

pub returns-in-None-clause-whole : goal.returns-in-None-clause-whole
returns-in-None-clause-whole c = whole_record c.args.line.now _ _ (take_rest c.args.line.now 1)
    c.in_ok-count.ensures.bytes c.in_ok-count.ensures.fault c.in-None.ensures
