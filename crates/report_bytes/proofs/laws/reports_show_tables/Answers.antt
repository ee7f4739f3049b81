use Rattle.book_rules.specs.Machine.{replay}
use Rattle.report_bytes.proofs.ShowsLemmas.{book_shows}
use Rattle.report_bytes.proofs.laws.reports_show_tables.Goals as goal

pub returns : goal.returns
returns g c = λ base text journal legal finished.
    let m = g.C.Chip.analysis base in
    let b = replay m journal in
    book_shows text m journal (λ unit d is_unit found. c.live_works_are_of_units.ensures.listed base b unit d is_unit found)
    (λ unit at exit over. let (done, found, is_work) = c.finished_book_is_its_table.ensures.works base journal unit at exit legal finished over in
    (c.finished_book_is_its_table.ensures.known base journal unit at exit legal finished over, done, found, is_work))
