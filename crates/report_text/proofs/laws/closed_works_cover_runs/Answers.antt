use Rattle.std.specs.Map.{values_of}
use Rattle.report_bytes.specs.ClosedWorks.{all_closed}
use Rattle.report_bytes.specs.Report.{closed_report}
use Rattle.report_text.proofs.PromiseLemmas.{covers_every}
use Rattle.report_text.proofs.laws.closed_works_cover_runs.Goals as goal

pub returns : goal.returns
returns g c = λ base text nodes works program closed.
    let all = values_of works in
    covers_every (g.C.LawfulChip.machine base) text all (closed_report text works) (c.reports_show_works.ensures text all)
    (all_closed all (c.tables_have_no_open.ensures base nodes works closed))
    (c.works_of_closed_tables_cover_runs.ensures base nodes works program closed)
