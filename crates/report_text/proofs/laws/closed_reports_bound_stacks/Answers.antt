use Rattle.book_rules.specs.Kept.{live_pairs, nodes_of}
use Rattle.book_rules.specs.Machine.{replay}
use Rattle.report_text.proofs.laws.closed_reports_bound_stacks.Goals as goal

pub returns : goal.returns
returns g c = λ base text journal program one_stack legal finished closed.
    let b = replay (g.C.Chip.analysis base) journal in
    let is_closed = (c.closed_books_are_told.ensures base journal legal finished).0 closed in
    c.closed_works_bound_stacks.ensures base text (nodes_of b) (live_pairs b) program one_stack
    (c.closed_book_is_its_table.ensures base journal program legal is_closed)
