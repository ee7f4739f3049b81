use Rattle.std.proofs.Common.{refl}
use Rattle.cert_text.specs.Certificate.{first_row}
use Rattle.cert_verdict.specs.Verdict.IsVerdict.{closed}
use Rattle.cert_verdict.proofs.laws.closed_tables_have_their_report.Goals as goal

pub returns : goal.returns
returns g c = λ base program text_of text rows read is_closed.
    let first = first_row (g.C.Chip.analysis base) (g.C.StateText.texts base) text in
    let are = c.tables_have_nodes.ensures base text rows program read in
    let none = (c.refusals_are_exact.ensures base program rows first are).1 is_closed in
    closed rows read none (c.unrefused_tables_are_closed_books.ensures base program rows first are none) refl refl
