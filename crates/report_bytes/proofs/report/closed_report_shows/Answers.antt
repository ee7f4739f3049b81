use Rattle.report_bytes.proofs.ShowsLemmas.{closed_shows}
use Rattle.report_bytes.proofs.report.closed_report_shows.Goals as goal

pub returns : goal.returns
returns g c =
    closed_shows (g.C.InstrText.text_of c.args.chip.now) (g.C.Chip.analysis c.args.book.now.base) c.args.book.now.nodes c.args.book.now.works
    c.is_of_closed_table.ensures.closed
