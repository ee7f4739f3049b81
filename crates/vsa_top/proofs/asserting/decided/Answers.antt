use Rattle.std.proofs.Common.{ℕ, refl, sym, ap, subst, ◌∙◌}
use Rattle.std.specs.Prelude.{◌≡◌, IfOk, flat_map}
use Rattle.std.specs.Map.{values_of}
use Rattle.assert_check.specs.Assertions.{broken_of}
use Rattle.item_lines.specs.Line.{item_line_of}
use Rattle.closed_book.specs.ClosedBook.{Closed}
use Rattle.vsa_top.specs.Answer.{IsAnalysis, IsDecided}
use Rattle.vsa_top.specs.Asserted.{broken_text, status_of_broken}
use Rattle.report_bytes.specs.Report.{IsReportOf}
use Rattle.book_rules.specs.Kept.{Kept}
use Rattle.book_rules.specs.Machine.{replay}
use Rattle.vsa_top.specs.declared.outcome.Status.TheVariants as status
use Rattle.vsa_top.specs.declared.reply.Reply.{Reply}
use Rattle.vsa_top.proofs.AssertedLemmas.{decided_by, reported_by}
use Rattle.vsa_top.proofs.ReplyLemmas.{if_all}
use Rattle.vsa_top.proofs.asserting.decided.Goals as goal

pub returns-in-Ok : goal.returns-in-Ok
returns-in-Ok g c =
    let book = c.args.book in
    let list = c.args.list.now in
    let text_of = g.C.InstrText.text_of c.args.chip.now in
    let line_of = item_line_of text_of in
    let works = c.in-Ok.closed.works in
    let broken = broken_of line_of list (flat_map (λ work. work.items) (values_of works)) in
    let m = g.C.Chip.analysis book.base in
    subst (λ b. IfOk c.decision.result (λ (r : Reply). (workers : ℕ) → IsAnalysis (g.C.Chip.analysis b) workers book.journal
    → IsDecided text_of (g.C.Chip.analysis b) workers list r.status r.text r.journal.items)) c.requires.base
    (if_all c.decision.result (λ (r : Reply). r.status ≡ status_of_broken broken) (λ (r : Reply). r.text ≡ broken_text line_of broken)
    (λ (r : Reply). r.journal.items ≡ c.in-Ok.journal.items)
    (λ (r : Reply). (workers : ℕ) → IsAnalysis m workers book.journal → IsDecided text_of m workers list r.status r.text r.journal.items)
    (λ r status_is text_is journal_is workers is. decided_by text_of m workers list book.journal r.journal.items works r.status r.text is
    (c.books_are_bounded.ensures book.base book.journal c.requires.program is.legal)
    ((c.closed_books_are_told.ensures book.base book.journal is.legal is.finished).1 (c.in-Ok.ensures.exact.0 refl))
    (ap (λ (k : Closed _ _). k.works) c.in-Ok.ensures.closed) status_is text_is (journal_is ∙ c.in-Ok.ensures.journal))
    c.decision.ensures.status c.decision.ensures.text c.decision.ensures.journal)

pub returns-in_ok-report-in-Err : goal.returns-in_ok-report-in-Err
returns-in_ok-report-in-Err g c =
    let book = c.args.book in
    let list = c.args.list.now in
    let text_of = g.C.InstrText.text_of c.args.chip.now in
    let m = g.C.Chip.analysis book.base in
    let same = c.in-Err.ensures.handed_back in
    let report = c.in_ok-report-in-Err.report in
    let journal = c.into_parts-journal.result.2.items in
    subst (λ b. (workers : ℕ) → IsAnalysis (g.C.Chip.analysis b) workers book.journal
    → IsDecided text_of (g.C.Chip.analysis b) workers list status.Open c.from_bytes.result journal) c.requires.base
    (λ workers is. subst (λ t. IsDecided text_of m workers list status.Open t journal) (sym c.from_bytes.ensures)
    (reported_by text_of m workers list book.journal journal report.text.items report.is_closed is
    (c.books_are_bounded.ensures book.base book.journal c.requires.program is.legal)
    (λ closed. cc (c.in-Err.ensures.exact.1 closed))
    (c.closed_books_are_told.ensures book.base book.journal is.legal is.finished).0
    (subst (λ (k : Kept _). IsReportOf text_of (replay (g.C.Chip.analysis k.base) k.journal) report.text.items report.is_closed) same
    c.in_ok-report-in-Err.ensures.report)
    (c.into_parts-journal.ensures.journal ∙ ap (λ (k : Kept _). k.journal) same)))
