use Rattle.book_rules.specs.Machine.{replay}
use Rattle.book_rules.proofs.FormLaws.{IsInForm-replay}
use Rattle.book_rules.proofs.SoundLaws.{sound_replay}
use Rattle.book_rules.proofs.TableLaws.{closed-table, formed-table}
use Rattle.book_rules.proofs.laws.closed_book_has_closed_table.Goals as goal

pub returns-clause-formed : goal.returns-clause-formed
returns-clause-formed g c = λ base journal keeps top l. let a = g.C.Chip.analysis base in formed-table a (replay a journal) (IsInForm-replay a keeps top journal l)

pub returns-clause-closed : goal.returns-clause-closed
returns-clause-closed g c = λ base journal keeps o l f. let a = g.C.Chip.analysis base in closed-table a (replay a journal) f (sound_replay a keeps o journal l)
