use Rattle.std.specs.Prelude.{◌==◌}
use Rattle.book_rules.proofs.ReplayLaws.{IsSteady-replay}
use Rattle.book_rules.proofs.CountLaws.{turns-replay}
use Rattle.book_rules.specs.Counts.{anyone}
use Rattle.book_rules.proofs.laws.claims_are_answered.Goals as goal

pub returns-clause-once : goal.returns-clause-once
returns-clause-once g c = λ base journal l. let a = g.C.Chip.analysis base in (IsSteady-replay a journal l).once

pub returns-clause-each : goal.returns-clause-each
returns-clause-each g c = λ base journal unit l. let a = g.C.Chip.analysis base in turns-replay a anyone unit journal l

pub returns-clause-seat : goal.returns-clause-seat
returns-clause-seat g c = λ base journal unit seat l. let a = g.C.Chip.analysis base in turns-replay a (λ s. s == seat) unit journal l
