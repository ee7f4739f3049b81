use Rattle.std.proofs.Common.{ℕ, subst}
use Rattle.vsa_top.specs.Answer.{IsAnalysis, IsReported}
use Rattle.vsa_top.specs.declared.reply.Reply.{Reply}
use Rattle.vsa_top.proofs.ReplyLemmas.{if_ok}
use Rattle.vsa_top.proofs.reply.chip_reply.Goals as goal

pub returns : goal.returns
returns g c =
    let chip = c.args.chip.now in
    let base = g.C.Chip.base chip in
    let book = c.in_ok-book.book in
    let m = g.C.Chip.analysis in
    let workers = c.args.workers in
    let is : ℕ → Reply → Type 0
    = λ n r. IsReported (g.C.InstrText.text_of chip) (m base) (g.C.StateText.texts base) n c.args.cert r.status r.text r.journal.items in
    if_ok c.analysed.result (λ (r : Reply). (n : ℕ) → IsAnalysis (m base) n book.journal → is n r) (is workers)
    (λ r all. all workers (subst (λ b. IsAnalysis (m b) workers book.journal) c.in_ok-book.ensures.base c.in_ok-book.ensures.analysis)) c.analysed.ensures
