use Rattle.book_rules.proofs.CountLaws.{claims-most}
use Rattle.book_rules.proofs.laws.claims_are_bounded.Goals as goal

pub returns : goal.returns
returns g c = λ base journal unit keeps top l. let a = g.C.Chip.analysis base in claims-most a keeps top unit journal l
