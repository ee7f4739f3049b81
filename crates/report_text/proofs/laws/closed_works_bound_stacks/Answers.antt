use Rattle.std.specs.Map.{values_of}
use Rattle.report_bytes.specs.ClosedWorks.{all_closed}
use Rattle.report_bytes.specs.Report.{closed_report}
use Rattle.report_text.proofs.PromiseLemmas.{bounds_stack}
use Rattle.report_text.proofs.laws.closed_works_bound_stacks.Goals as goal

pub returns : goal.returns
returns g c = λ base text nodes works program one_stack closed.
    let all = values_of works in
    bounds_stack (g.C.LawfulChip.machine base) all (closed_report text works)
    (c.closed_reports_tell_stacks.ensures base text nodes works one_stack closed)
    (all_closed all (c.tables_have_no_open.ensures base nodes works closed))
    (c.works_of_closed_tables_cover_runs.ensures base nodes works program closed)
