use Rattle.book_rules.specs.Machine.{replay}
use Rattle.closed_book.proofs.closed_book_is_its_table.Goals as goal

pub returns : goal.returns
returns g c = λ base journal program legal closed.
    let laws = c.order_laws.ensures base program in
    c.sound_books_are_closed.ensures base (replay (g.C.Chip.analysis base) journal)
    (c.sound_books_stay.ensures.replay base journal laws.keeps laws.ordered legal) closed
