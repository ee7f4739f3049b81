use Rattle.std.proofs.Common.{refl, sym}
use Rattle.cert_text.specs.Certificate.{first_row}
use Rattle.cert_verdict.specs.Verdict.IsVerdict.{closed}
use Rattle.cert_verdict.proofs.laws.own_certificates_are_closed.Goals as goal

pub returns : goal.returns
returns g c = λ base program text_of journal text one_stack legal is_closed cert.
    let own = c.own_certificates_give_the_report.ensures base program journal text legal is_closed cert in
    let rows = own.accepted.rows in
    let first = first_row (g.C.Chip.analysis base) (g.C.StateText.texts base) text in
    let are = c.tables_have_nodes.ensures base text rows program own.accepted.reads in
    let none = own.accepted.passes first in
    let book = c.unrefused_tables_are_closed_books.ensures base program rows first are none in
    closed rows own.accepted.reads none book refl (sym (own.report one_stack text_of))
