use Rattle.book_rules.specs.Machine.{replay}
use Rattle.report_bytes.proofs.ClosingLemmas.{told}
use Rattle.report_bytes.proofs.closing.closed_books_are_told.Goals as goal

pub returns : goal.returns
returns g c = λ base journal legal finished.
    told (replay (g.C.Chip.analysis base) journal) finished (c.live_works_are_of_units.ensures.listed base (replay (g.C.Chip.analysis base) journal))
    (λ unit work h. c.live_pairs_are_units.ensures.units base journal unit work legal h)
