use Rattle.std.proofs.Common.{◌≡◌}
use Rattle.worker_rounds.proofs.TurnLemmas.{IsBetweenTurns}
use Rattle.worker_rounds.proofs.fixpoint.watched_fixpoint.Given as goal

abbrev pub invariant-loop : goal.invariant-loop
invariant-loop g l = (l.book.base ≡ g.C.Chip.base l.chip) × IsBetweenTurns (g.C.Chip.analysis l.book.base) l.book.journal
