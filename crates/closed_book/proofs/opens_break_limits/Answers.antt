use Rattle.book_rules.specs.Machine.{replay}
use Rattle.closed_book.proofs.Books.{is_broken}
use Rattle.closed_book.proofs.opens_break_limits.Goals as goal

pub returns : goal.returns
returns g c = λ base journal work pc cause program legal finished is_work is_open.
    let m = g.C.Chip.analysis base in
    let laws = c.order_laws.ensures base program in
    is_broken m laws (replay m journal)
    (c.closed_book_has_closed_table.ensures.formed base journal laws.keeps laws.ordered.topped legal)
    (c.finished_books_are_their_units.ensures.pairs base journal legal)
    (c.finished_books_are_their_units.ensures.table base journal legal finished) work pc cause is_work is_open
