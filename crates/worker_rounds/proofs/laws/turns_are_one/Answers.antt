use Rattle.worker_rounds.proofs.OneJournal.{one_journal}
use Rattle.worker_rounds.proofs.laws.turns_are_one.Goals as goal

pub returns : goal.returns
returns g c = λ base one other. one_journal (g.C.Chip.analysis base) c.first_is_one.ensures one other
