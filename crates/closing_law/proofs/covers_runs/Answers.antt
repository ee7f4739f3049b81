use Rattle.closed_book.specs.ClosedBook.{table_in}
use Rattle.closing_law.proofs.covers_runs.Goals as goal

pub returns-clause-runs : goal.returns-clause-runs
returns-clause-runs g c =
    let is = c.is_of_closed_table.ensures in
    c.closed_tables_cover_runs.ensures c.args.book.now.base (table_in c.args.book.now.nodes) is.program is.closed.formed is.closed.closed

pub returns-clause-works : goal.returns-clause-works
returns-clause-works g c =
    let is = c.is_of_closed_table.ensures in
    c.works_of_closed_tables_cover_runs.ensures c.args.book.now.base c.args.book.now.nodes c.args.book.now.works is.program is.closed
