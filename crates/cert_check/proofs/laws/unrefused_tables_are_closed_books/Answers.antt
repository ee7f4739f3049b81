use Rattle.cert_check.proofs.ClosedLemmas.{closed_book}
use Rattle.cert_check.proofs.laws.unrefused_tables_are_closed_books.Goals as goal

pub returns : goal.returns
returns g c = λ b program rows first nodes_are none.
    closed_book (g.C.Chip.analysis b) (g.C.StateText.texts b) rows (c.tables_are_known.ensures b program rows nodes_are) first none
