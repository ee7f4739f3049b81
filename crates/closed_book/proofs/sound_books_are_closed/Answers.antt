use Rattle.closed_book.proofs.ClosedBooks.{closed_book}
use Rattle.closed_book.proofs.sound_books_are_closed.Goals as goal

pub returns : goal.returns
returns g c = λ base b is closed.
    let laws = c.sound_books_are_their_tables.ensures in
    closed_book (g.C.Chip.analysis base) b
    (record {
      listed = λ unit d u found. c.live_pairs_are_units.ensures.listed base b unit d u found;
      units = λ unit work there. laws.live base b unit work is there;
      once = laws.once base b is;
    })
    (record {
      units = λ unit u. laws.units base b unit is closed.finished u;
      known = λ unit at exit over. laws.known base b unit at exit is closed.finished over;
      works = λ unit at exit over. laws.works base b unit at exit is closed.finished over;
    })
    is.steady.apart (laws.formed base b is) (laws.closed base b is closed)
