use Rattle.closing_law.proofs.Books.{is_closed}
use Rattle.closing_law.proofs.closed_books_cover_runs.Goals as goal
use Rattle.book_rules.specs.Kept.{live_pairs, nodes_of}
use Rattle.book_rules.specs.Machine.{replay}

pub returns : goal.returns
returns g c = λ base journal program legal finished none_open.
    let b = replay (g.C.Chip.analysis base) journal in
    let closed = is_closed b (c.live_works_are_of_units.ensures.listed base b) finished none_open in
    c.works_of_closed_tables_cover_runs.ensures base (nodes_of b) (live_pairs b) program
    (c.closed_book_is_its_table.ensures base journal program legal closed)
