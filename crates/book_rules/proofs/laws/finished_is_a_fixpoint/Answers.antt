use Rattle.book_rules.specs.Machine.{replay}
use Rattle.book_rules.proofs.ReplayLaws.{IsSteady-replay}
use Rattle.book_rules.proofs.WorkLaws.{finished-done, finished-under}
use Rattle.book_rules.proofs.SoundLaws.{sound_replay}
use Rattle.book_rules.proofs.laws.finished_is_a_fixpoint.Goals as goal

pub returns-clause-works : goal.returns-clause-works
returns-clause-works g c = λ base journal unit l f u. let a = g.C.Chip.analysis base in finished-done a (replay a journal) unit f (IsSteady-replay a journal l) u

pub returns-clause-posts : goal.returns-clause-posts
returns-clause-posts g c = λ base journal unit d keeps o l e. let a = g.C.Chip.analysis base in finished-under a (replay a journal) unit d (sound_replay a keeps o journal l).served e

pub returns-clause-start : goal.returns-clause-start
returns-clause-start g c = λ base journal keeps o l. let a = g.C.Chip.analysis base in (sound_replay a keeps o journal l).served.start
