use Rattle.std.proofs.Common.{◌≡◌, subst, None}
use Rattle.book_rules.specs.Machine.{replay}
use Rattle.report_bytes.specs.Deepest.{deepest_of}
use Rattle.report_bytes.specs.Report.{IsReportOf, counts_of, items_of, last_works, reported_lines}
use Rattle.vsa_top.specs.Answer.{IsAnalysis}
use Rattle.vsa_top.proofs.ReplyLemmas.{summary_by}
use Rattle.vsa_top.proofs.summary.summed.Goals as goal

pub returns : goal.returns
returns g c =
    let text_of = g.C.InstrText.text_of c.args.program.now in
    let base = g.C.Chip.base c.args.program.now in
    let m = g.C.Chip.analysis in
    let journal = c.args.book.now.journal in
    let report = c.in_ok-report.report in
    let text = c.in_ok-text.text.items in
    let own = c.requires.base in
    let is : IsAnalysis (m base) 1 journal = subst (λ b. IsAnalysis (m b) 1 journal) own c.requires.made in
    let bounded = c.books_are_bounded.ensures base journal c.is_program.ensures is.legal in
    let reported : IsReportOf text_of (replay (m base) journal) report.text.items report.is_closed =
    subst (λ b. IsReportOf text_of (replay (m b) journal) report.text.items report.is_closed) own c.in_ok-report.ensures.report in
    let deepest : report.deepest ≡ deepest_of None (items_of (last_works (m base) journal)) =
    subst (λ b. report.deepest ≡ deepest_of None (items_of (last_works (m b) journal))) own c.in_ok-report.ensures.deepest in
    let counts : report.counts ≡ counts_of (reported_lines text_of (last_works (m base) journal)) =
    subst (λ b. report.counts ≡ counts_of (reported_lines text_of (last_works (m b) journal))) own c.in_ok-report.ensures.counts in
    summary_by text_of (m base) c.args.chip c.args.number journal report.text.items text report.is_closed report.deepest report.counts
    c.status_of.result is bounded reported c.status_of.ensures deepest counts c.in_ok-text.ensures
