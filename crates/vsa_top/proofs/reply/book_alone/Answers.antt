use Rattle.book_rules.specs.Machine.{replay, IsFinished, IsLegalJournal}
use Rattle.worker_rounds.specs.Turns.{AreTurns}
use Rattle.vsa_top.specs.Answer.{IsAnalysis}
use Rattle.vsa_top.proofs.ReplyLemmas.{alone_is, if_all}
use Rattle.vsa_top.proofs.reply.book_alone.Goals as goal

pub returns-clause-analysis : goal.returns-clause-analysis
returns-clause-analysis g c =
    let m = g.C.Chip.analysis in
    if_all c.watched_fixpoint.result (λ b. IsLegalJournal (m b.base) b.journal) (λ b. IsFinished (replay (m b.base) b.journal)) (λ b. AreTurns b.journal)
    (λ b. IsAnalysis (m b.base) 1 b.journal) (λ b. alone_is (m b.base) b.journal)
    c.watched_fixpoint.ensures.legal c.watched_fixpoint.ensures.finished c.watched_fixpoint.ensures.turns
