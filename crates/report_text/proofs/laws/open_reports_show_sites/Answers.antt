use Rattle.report_bytes.specs.Report.{last_works, report_of_journal}
use Rattle.report_text.proofs.PromiseLemmas.{open_sites}
use Rattle.report_text.proofs.laws.open_reports_show_sites.Goals as goal

pub returns : goal.returns
returns g c = λ base text journal program legal finished left.
    let m = g.C.Chip.analysis base in
    open_sites text m journal (report_of_journal text m journal) (c.reports_show_works.ensures text (last_works m journal))
    (λ work pc cause. c.opens_break_limits.ensures base journal work pc cause program legal finished) left
