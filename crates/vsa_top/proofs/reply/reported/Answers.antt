use Rattle.std.proofs.Common.{subst}
use Rattle.book_rules.specs.Machine.{replay}
use Rattle.report_bytes.specs.Report.{IsReportOf}
use Rattle.vsa_top.specs.Answer.{IsAnalysis}
use Rattle.vsa_top.proofs.ReplyLemmas.{reported_by}
use Rattle.vsa_top.proofs.reply.reported.Goals as goal

pub returns : goal.returns
returns g c = λ workers made.
    let text_of = g.C.InstrText.text_of c.args.chip.now in
    let base = g.C.Chip.base c.args.chip.now in
    let m = g.C.Chip.analysis base in
    let texts = g.C.StateText.texts base in
    let book = c.args.book.now in
    let report = c.in_ok-report.report in
    let text = c.push_certificate.new.text.items in
    let is : IsAnalysis m workers book.journal = made in
    let bounded = c.books_are_bounded.ensures base book.journal c.is_program.ensures is.legal in
    let told : IsReportOf text_of (replay m book.journal) report.text.items report.is_closed =
    subst (λ b. IsReportOf text_of (replay (g.C.Chip.analysis b) book.journal) report.text.items report.is_closed) c.requires.base c.in_ok-report.ensures.report in
    reported_by text_of m texts workers c.args.cert book.journal report.text.items text report.is_closed c.status_of.result is bounded told
    c.status_of.ensures c.in_ok-push_certificate.ensures
