use Rattle.std.proofs.Common.{sym, subst}
use Rattle.cert_text.specs.Writing.{AreNodes}
use Rattle.cert_text.proofs.writer.listed.Goals as goal

pub returns-clause-formed : goal.returns-clause-formed
returns-clause-formed g c =
    let b = c.args.book.now.base in
    let program = subst g.C.OrderlyChip.program c.requires c.is_program.ensures in
    let nodes = c.nodes_of_books_are_formed.ensures b program c.args.book.now.journal c.journal-journal.ensures.legal in
    subst (λ x. AreNodes (g.C.Chip.analysis x) c.nodes.result.now) (sym c.requires)
    (subst (AreNodes (g.C.Chip.analysis b)) (sym c.nodes.ensures) nodes)
