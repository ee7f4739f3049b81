use Rattle.book_rules.specs.Machine.{replay}
use Rattle.closed_book.proofs.finished_books_are_their_units.Goals as goal

pub returns-clause-pairs : goal.returns-clause-pairs
returns-clause-pairs g c = λ base journal legal. record {
  listed = λ unit d u found. c.live_pairs_are_units.ensures.listed base (replay (g.C.Chip.analysis base) journal) unit d u found;
  units = λ unit work there. c.live_pairs_are_units.ensures.units base journal unit work legal there;
  once = c.live_pairs_are_units.ensures.once base journal legal;
}

pub returns-clause-table : goal.returns-clause-table
returns-clause-table g c = λ base journal legal finished. record {
  units = λ unit u. c.finished_book_is_its_table.ensures.units base journal unit legal finished u;
  known = λ unit at exit over. c.finished_book_is_its_table.ensures.known base journal unit at exit legal finished over;
  works = λ unit at exit over. c.finished_book_is_its_table.ensures.works base journal unit at exit legal finished over;
}
