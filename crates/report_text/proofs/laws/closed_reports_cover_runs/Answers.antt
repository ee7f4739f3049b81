use Rattle.report_bytes.specs.ClosedWorks.{none_open}
use Rattle.report_bytes.specs.Report.{last_works, report_of_journal}
use Rattle.report_text.proofs.PromiseLemmas.{covers_every}
use Rattle.report_text.proofs.laws.closed_reports_cover_runs.Goals as goal

pub returns : goal.returns
returns g c = λ base text journal program legal finished closed.
    let m = g.C.Chip.analysis base in
    let works = last_works m journal in
    covers_every (g.C.LawfulChip.machine base) text works (report_of_journal text m journal) (c.reports_show_works.ensures text works) closed
    (c.closed_books_cover_runs.ensures base journal program legal finished (none_open works closed))
