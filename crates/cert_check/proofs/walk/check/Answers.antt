use Rattle.std.proofs.Common.{sym, ◌∙◌, subst}
use Rattle.closed_book.specs.ClosedBook.{IsClosedBook}
use Rattle.cert_text.specs.Writing.{AreNodes}
use Rattle.cert_check.specs.Refusal.{works_in}
use Rattle.cert_check.proofs.ClosedLemmas.{closed_book, no_refusal}
use Rattle.cert_check.proofs.walk.check.Goals as goal

pub of_table-requires-after_bounds : goal.of_table-requires-after_bounds
of_table-requires-after_bounds g c κs within =
    let b = g.C.Chip.base c.args.chip.now in
    let a = g.C.Chip.analysis b in
    let table = c.in_ok-table.table in
    let forms = subst (AreNodes a) (sym (c.in_ok-table.ensures ∙ c.into_nodes.ensures))
    (subst (λ x. AreNodes (g.C.Chip.analysis x) c.args.cert.rows) (sym c.requires) c.nodes-rows.ensures.forms) in
    let known = c.tables_are_known.ensures b c.is_program.ensures table forms in
    let book = closed_book a (g.C.StateText.texts b) table known c.first-first.result
    (no_refusal a (g.C.StateText.texts b).outside table c.first-first.result c.in_ok-hold_start.ensures c.in_ok-works.ensures.held) in
    subst (IsClosedBook a c.into_rows.result.items) (sym c.in_ok-works.ensures.works)
    (subst (λ nodes. IsClosedBook a nodes (works_in a table)) (sym c.into_rows.ensures) book)
