use Rattle.book_rules.specs.Machine.{replay}
use Rattle.book_rules.proofs.LiveLaws.{is_paired}
use Rattle.book_rules.proofs.PlacedLaws.{live_once, live_unit, IsPlaced-replay}
use Rattle.book_rules.proofs.laws.live_pairs_are_units.Goals as goal

pub returns-clause-listed : goal.returns-clause-listed
returns-clause-listed g c = λ base b unit d u found. is_paired b unit d u found

pub returns-clause-units : goal.returns-clause-units
returns-clause-units g c = λ base journal unit work l there. let a = g.C.Chip.analysis base in
    live_unit (replay a journal) (IsPlaced-replay a journal l) unit work there

pub returns-clause-once : goal.returns-clause-once
returns-clause-once g c = λ base journal l. let a = g.C.Chip.analysis base in
    live_once (replay a journal) (IsPlaced-replay a journal l)
