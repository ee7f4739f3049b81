use Rattle.book_rules.proofs.LiveLaws.{is_listed, is_of_unit}
use Rattle.book_rules.proofs.laws.live_works_are_of_units.Goals as goal

pub returns-clause-listed : goal.returns-clause-listed
returns-clause-listed g c = λ base b unit d u found. let a = g.C.Chip.analysis base in is_listed b unit d u found

pub returns-clause-worked : goal.returns-clause-worked
returns-clause-worked g c = λ base journal work keeps top l h. let a = g.C.Chip.analysis base in is_of_unit a keeps top journal work l h
