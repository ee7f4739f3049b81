use Rattle.std.proofs.Common.{ℕ, sym, subst}
use Rattle.vsa_top.specs.Answer.{IsAnalysis, IsDecided}
use Rattle.vsa_top.specs.declared.reply.Reply.{Reply}
use Rattle.vsa_top.proofs.ReplyLemmas.{if_ok}
use Rattle.vsa_top.proofs.asserting.chip_decision.Goals as goal

pub decided-requires-clause-program : goal.decided-requires-clause-program
decided-requires-clause-program g c = λ lifetimes outlive. subst g.C.OrderlyChip.program (sym c.in_ok-book.ensures.base) c.is_program.ensures

pub returns : goal.returns
returns g c =
    let chip = c.args.chip.now in
    let book = c.in_ok-book.book in
    let m = g.C.Chip.analysis (g.C.Chip.base chip) in
    let workers = c.args.workers in
    let list = c.args.list.now in
    let is : ℕ → Reply → Type 0
    = λ n r. IsDecided (g.C.InstrText.text_of chip) m n list r.status r.text r.journal.items in
    if_ok c.decided.result (λ (r : Reply). (n : ℕ) → IsAnalysis m n book.journal → is n r) (is workers)
    (λ r all. all workers (subst (λ b. IsAnalysis (g.C.Chip.analysis b) workers book.journal) c.in_ok-book.ensures.base c.in_ok-book.ensures.analysis))
    c.decided.ensures
