use Rattle.closed_book.specs.BookFacts.{none_open}
use Rattle.closed_book.proofs.tables_have_no_open.Goals as goal

pub returns : goal.returns
returns g c = λ base nodes works closed. none_open (g.C.Chip.analysis base) nodes works closed
