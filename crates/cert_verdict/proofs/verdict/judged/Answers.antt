use Rattle.std.proofs.Common.{◌≡◌, None, Some, refl, ap, ◌∙◌, subst}
use Rattle.closed_book.specs.ClosedBook.{Closed, IsClosedBook}
use Rattle.report_bytes.specs.Report.{closed_report}
use Rattle.cert_check.specs.Refusal.{Tells, refusal_of}
use Rattle.cert_verdict.specs.Lines.{refusal_line}
use Rattle.cert_verdict.specs.Verdict.IsVerdict.{closed, refused}
use Rattle.cert_verdict.proofs.verdict.judged.Goals as goal

pub returns-in_ok-closed_report_of-in-Ok : goal.returns-in_ok-closed_report_of-in-Ok
returns-in_ok-closed_report_of-in-Ok g c = λ text read first_is.
    let cert = c.args.cert in
    let a = g.C.Chip.analysis cert.base in
    let outside = (g.C.StateText.texts cert.base).outside in
    let same = c.in-Ok.ensures.closed in
    closed cert.rows read (subst (λ n. refusal_of a outside cert.rows n ≡ None) first_is c.in-Ok.ensures.held)
    (subst (λ (v : Closed _ _). IsClosedBook (g.C.Chip.analysis v.base) v.nodes v.works) same c.is_of_closed_table.ensures.closed) refl
    (c.in_ok-closed_report_of-in-Ok.ensures.report ∙ ap (λ (v : Closed _ _). closed_report (g.C.InstrText.text_of c.args.chip.now) v.works) same)

pub returns-in_ok-refusal_line-in-Err-Refused : goal.returns-in_ok-refusal_line-in-Err-Refused
returns-in_ok-refusal_line-in-Err-Refused g c = λ text read first_is.
    let cert = c.args.cert in
    let a = g.C.Chip.analysis cert.base in
    let outside = (g.C.StateText.texts cert.base).outside in
    let why = c.in-Err-Refused.refusal in
    let first = subst (Tells (refusal_of a outside cert.rows cert.first)) c.in-Err-Refused.field-0-is c.in-Err-Refused.ensures.refused in
    let digits = c.sp_digits.ensures.digits ∙ ap (λ b. (g.C.StateText.texts b).digits) c.requires in
    refused cert.rows why read (subst (λ n. refusal_of a outside cert.rows n ≡ Some why) first_is first) refl
    (c.in_ok-refusal_line-in-Err-Refused.ensures ∙ ap (λ d. refusal_line d why) digits)
