use Rattle.book_rules.proofs.OutsLaws.{turned}
use Rattle.book_rules.proofs.laws.turns_come_home.Goals as goal

pub returns-clause-post : goal.returns-clause-post
returns-clause-post g c = λ base b seat unit first none. (turned (g.C.Chip.analysis base) b seat unit first none).legal

pub returns-clause-home : goal.returns-clause-home
returns-clause-home g c = λ base b seat unit first none. (turned (g.C.Chip.analysis base) b seat unit first none).none_out
