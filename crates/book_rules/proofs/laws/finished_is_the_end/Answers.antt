use Rattle.book_rules.proofs.ReplayLaws.{finished-end, IsLegalJournal-last}
use Rattle.book_rules.specs.Machine.{replay}
use Rattle.book_rules.proofs.laws.finished_is_the_end.Goals as goal

pub returns-clause-event : goal.returns-clause-event
returns-clause-event g c = λ base journal event f l. let a = g.C.Chip.analysis base in finished-end (replay a journal) event f l

pub returns-clause-journal : goal.returns-clause-journal
returns-clause-journal g c = λ base journal event f l. let a = g.C.Chip.analysis base in finished-end (replay a journal) event f (IsLegalJournal-last a journal event l)
