use Rattle.report_text.proofs.print.closed_report_covers.Goals as goal

pub returns : goal.returns
returns g c =
    let is = c.is_of_closed_table.ensures in
    let book = c.args.book.now in
    c.closed_works_cover_runs.ensures book.base (g.C.InstrText.text_of c.args.chip.now) book.nodes book.works is.program is.closed
