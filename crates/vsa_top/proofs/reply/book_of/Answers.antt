use Rattle.std.proofs.Common.{◌<◌, All}
use Rattle.book_rules.specs.Counts.{seat_of}
use Rattle.book_rules.specs.Machine.{replay, IsFinished, IsLegalJournal}
use Rattle.vsa_top.specs.Answer.{IsAnalysis}
use Rattle.vsa_top.proofs.ReplyLemmas.{if_all}
use Rattle.vsa_top.proofs.reply.book_of.Goals as goal

pub returns-clause-analysis : goal.returns-clause-analysis
returns-clause-analysis g c =
    let m = g.C.Chip.analysis in
    let workers = c.args.workers in
    if_all c.fixpoint.result (λ b. IsLegalJournal (m b.base) b.journal) (λ b. IsFinished (replay (m b.base) b.journal))
    (λ b. All (λ event. seat_of event < workers) b.journal) (λ b. IsAnalysis (m b.base) workers b.journal)
    (λ b legal finished seats.
    record { legal = legal; finished = finished; seats = seats; alone = λ one. absurd (c.if-workers-eq1.false one) })
    c.fixpoint.ensures.legal c.fixpoint.ensures.finished c.fixpoint.ensures.seats
