use Rattle.book_rules.proofs.SoundLaws.{sound_opening, sound_stays, sound_replay}
use Rattle.book_rules.proofs.laws.sound_books_stay.Goals as goal

pub returns-clause-opening : goal.returns-clause-opening
returns-clause-opening g c = λ base keeps o. sound_opening (g.C.Chip.analysis base) keeps o

pub returns-clause-event : goal.returns-clause-event
returns-clause-event g c = λ base b event keeps o legal is. sound_stays (g.C.Chip.analysis base) keeps o b event legal is

pub returns-clause-replay : goal.returns-clause-replay
returns-clause-replay g c = λ base journal keeps o legal. sound_replay (g.C.Chip.analysis base) keeps o journal legal
