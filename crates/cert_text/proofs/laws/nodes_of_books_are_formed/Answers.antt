use Rattle.book_rules.specs.Machine.{replay}
use Rattle.cert_text.proofs.BookLemmas.{book_nodes}
use Rattle.cert_text.proofs.laws.nodes_of_books_are_formed.Goals as goal

pub returns : goal.returns
returns g c = λ b program journal legal.
    let a = g.C.Chip.analysis b in
    let laws = c.order_laws.ensures b program in
    book_nodes a c.tests_tell_which_are_one.ensures.nodes (replay a journal).nodes (c.nodes_stay.ensures.apart b journal legal)
    (c.closed_book_has_closed_table.ensures.formed b journal laws.keeps laws.ordered.topped legal)
