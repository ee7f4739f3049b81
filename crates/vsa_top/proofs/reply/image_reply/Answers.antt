use Rattle.std.proofs.Common.{◌≡◌, [], sym, subst}
use Rattle.std.specs.Prelude.{IfOk}
use Rattle.vsa_top.specs.Answer.{IsAskedOn, IsImageReply, IsRun, run_under}
use Rattle.vsa_top.specs.Input.{begun_with}
use Rattle.vsa_top.specs.declared.reply.Reply.{Reply}
use Rattle.vsa_words.specs.declared.reading.Reading.TheVariants.{Gen}
use Rattle.vsa_words.specs.declared.reading.Task.{Task}
use Rattle.vsa_top.proofs.ReplyLemmas.{if_both}
use Rattle.vsa_top.proofs.reply.image_reply.Goals as goal

pub returns-in-Analyse-clause-reply : goal.returns-in-Analyse-clause-reply
returns-in-Analyse-clause-reply g c =
    let image = c.args.image in
    let second = begun_with c.args.begun.now (g.S.Source.left c.args.source.now) in
    subst (λ m. IfOk c.asked_of.result (λ (r : Reply). IsImageReply m image second r.status r.text r.journal.items)) (sym c.in-Analyse.is)
    c.asked_of.ensures.reply

pub returns-in-Assert-clause-reply : goal.returns-in-Assert-clause-reply
returns-in-Assert-clause-reply g c =
    let image = c.args.image in
    let second = begun_with c.args.begun.now (g.S.Source.left c.args.source.now) in
    subst (λ m. IfOk c.asked_of-in-Assert.result (λ (r : Reply). IsImageReply m image second r.status r.text r.journal.items)) (sym c.in-Assert.is)
    c.asked_of-in-Assert.ensures.reply

pub returns-in-Check-clause-reply : goal.returns-in-Check-clause-reply
returns-in-Check-clause-reply g c =
    let image = c.args.image in
    let second = begun_with c.args.begun.now (g.S.Source.left c.args.source.now) in
    subst (λ m. IfOk c.asked_of-in-Check.result (λ (r : Reply). IsImageReply m image second r.status r.text r.journal.items)) (sym c.in-Check.is)
    c.asked_of-in-Check.ensures.reply

pub returns-in-Gen-clause-reply : goal.returns-in-Gen-clause-reply
returns-in-Gen-clause-reply g c =
    let image = c.args.image in
    let second = begun_with c.args.begun.now (g.S.Source.left c.args.source.now) in
    subst (λ m. IfOk c.asked_of-in-Gen.result (λ (r : Reply). IsImageReply m image second r.status r.text r.journal.items)) (sym c.in-Gen.is)
    (subst (λ (task : Task). IfOk c.asked_of-in-Gen.result
    (λ (r : Reply). IsAskedOn task.target task.limits image (Gen c.in-Gen.chip c.in-Gen.number) second r.status r.text r.journal.items))
    c.usual-task.ensures c.asked_of-in-Gen.ensures.reply)

pub returns-in-Run-clause-reply : goal.returns-in-Run-clause-reply
returns-in-Run-clause-reply g c =
    let image = c.args.image in
    let second = begun_with c.args.begun.now (g.S.Source.left c.args.source.now) in
    if_both c.chip_run_reply.result (λ (r : Reply). IsRun (run_under c.in-Run.target c.in-Run.steps image) second r.status r.text)
    (λ (r : Reply). r.journal.items ≡ []) (λ (r : Reply). IsImageReply c.args.reading image second r.status r.text r.journal.items)
    (λ r run none. subst (λ m. IsImageReply m image second r.status r.text r.journal.items) (sym c.in-Run.is) (run, none))
    c.chip_run_reply.ensures.run c.chip_run_reply.ensures.journal
