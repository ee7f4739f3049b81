use Rattle.std.proofs.Common.{sym, subst}
use Rattle.book_rules.specs.Kept.{nodes_of}
use Rattle.book_rules.specs.Machine.{replay}
use Rattle.closed_book.specs.ClosedBook.{IsClosedBook}
use Rattle.closed_book.proofs.closed.read_closed_with_journal.Goals as goal

pub invariant_of-result : goal.invariant_of-result
invariant_of-result g c =
    let base = c.args.book.base in
    let m = g.C.Chip.analysis base in
    let b = replay m c.args.book.journal in
    let closed = c.is_closed.ensures.0 c.if-not-is_closed.false in
    let book = c.closed_book_is_its_table.ensures base c.args.book.journal c.requires c.journal-journal.ensures.legal closed in
    let out = c.into_live-chip.ensures in (
      subst (g.C.OrderlyChip.program) (sym out.base) c.requires,
      subst (λ x. IsClosedBook (g.C.Chip.analysis x) c.into_live-chip.result.1.items c.into_live-chip.result.2.items) (sym out.base)
          (subst (λ ns. IsClosedBook m ns c.into_live-chip.result.2.items) (sym out.nodes)
          (subst (λ ws. IsClosedBook m (nodes_of b) ws) (sym out.works) book)),
    )
