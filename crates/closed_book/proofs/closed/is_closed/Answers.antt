use Rattle.std.proofs.Common.{◌∙◌, sym}
use Rattle.book_rules.specs.Kept.{is_live, works_of}
use Rattle.book_rules.specs.Machine.{replay}
use Rattle.closed_book.proofs.ClosedBooks.{has_none, none_has, shut_open, open_shut}
use Rattle.closed_book.proofs.closed.is_closed.Goals as goal

pub returns-then-finished : goal.returns-then-finished
returns-then-finished g c =
    let base = c.args.book.now.base in
    let journal = c.args.book.now.journal in
    let b = replay (g.C.Chip.analysis base) journal in
    let are = c.finished_books_are_their_units.ensures.pairs base journal c.journal-journal.ensures.legal in (
      λ t. has_none b are (c.finished.ensures.0 c.if-finished.true) (shut_open (is_live b.done) (works_of b) (sym c.has_no_open.ensures ∙ t)),
      λ closed. c.has_no_open.ensures ∙ open_shut (is_live b.done) (works_of b) (none_has b are closed),
    )
