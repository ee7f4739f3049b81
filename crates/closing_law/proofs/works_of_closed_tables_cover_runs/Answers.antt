use Rattle.closed_book.specs.ClosedBook.{table_in}
use Rattle.closing_law.proofs.Books.{works_cover}
use Rattle.closing_law.proofs.works_of_closed_tables_cover_runs.Goals as goal

pub returns : goal.returns
returns g c = λ base nodes works program closed.
    works_cover (g.C.LawfulChip.machine base) (g.C.Chip.analysis base) (g.C.LawfulChip.covers base) nodes works closed
    (c.closed_tables_cover_runs.ensures base (table_in nodes) program closed.formed closed.closed)
