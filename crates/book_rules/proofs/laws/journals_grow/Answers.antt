use Rattle.book_rules.proofs.ReplayLaws.{AllLegal-front}
use Rattle.book_rules.specs.Replays.{IsLegalJournal-none, IsLegalJournal-push}
use Rattle.book_rules.specs.Machine.{opening}
use Rattle.book_rules.proofs.laws.journals_grow.Goals as goal

pub returns-clause-none : goal.returns-clause-none
returns-clause-none g c = λ base. let a = g.C.Chip.analysis base in IsLegalJournal-none a

pub returns-clause-more : goal.returns-clause-more
returns-clause-more g c = λ base journal event l e. let a = g.C.Chip.analysis base in IsLegalJournal-push a journal event l e

pub returns-clause-front : goal.returns-clause-front
returns-clause-front g c = λ base journal more l. let a = g.C.Chip.analysis base in AllLegal-front a (opening a) journal more l
