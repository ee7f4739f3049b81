use Rattle.std.proofs.Common.{◌≡◌, [], sym, subst}
use Rattle.vsa_top.specs.Answer.{IsAsserted, IsChecked, IsProgramReply}
use Rattle.vsa_top.specs.Input.{begun_with}
use Rattle.vsa_top.specs.declared.reply.Reply.{Reply}
use Rattle.vsa_top.proofs.ReplyLemmas.{if_both, if_ok}
use Rattle.vsa_top.proofs.asked.asked.Goals as goal

pub returns-in_ok-chip_reply-in-Analyse-clause-reply : goal.returns-in_ok-chip_reply-in-Analyse-clause-reply
returns-in_ok-chip_reply-in-Analyse-clause-reply g c =
    let base = g.C.Chip.base c.args.chip.now in
    let second = begun_with c.args.begun.now (g.S.Source.left c.args.source.now) in
    let r = c.in_ok-chip_reply-in-Analyse.field-0 in
    subst (λ m. IsProgramReply (g.C.InstrText.text_of c.args.chip.now) (g.C.Chip.analysis base) (g.C.StateText.texts base) m second r.status r.text r.journal.items)
    (sym c.in-Analyse.is) c.in_ok-chip_reply-in-Analyse.ensures

pub returns-in_ok-chip_summary-in-Gen-clause-reply : goal.returns-in_ok-chip_summary-in-Gen-clause-reply
returns-in_ok-chip_summary-in-Gen-clause-reply g c =
    let base = g.C.Chip.base c.args.chip.now in
    let second = begun_with c.args.begun.now (g.S.Source.left c.args.source.now) in
    let r = c.in_ok-chip_summary-in-Gen.field-0 in
    subst (λ m. IsProgramReply (g.C.InstrText.text_of c.args.chip.now) (g.C.Chip.analysis base) (g.C.StateText.texts base) m second r.status r.text r.journal.items)
    (sym c.in-Gen.is) c.in_ok-chip_summary-in-Gen.ensures

pub returns-in-Assert-clause-reply : goal.returns-in-Assert-clause-reply
returns-in-Assert-clause-reply g c =
    let base = g.C.Chip.base c.args.chip.now in
    let text_of = g.C.InstrText.text_of c.args.chip.now in
    let a = g.C.Chip.analysis base in
    let texts = g.C.StateText.texts base in
    let second = begun_with c.args.begun.now (g.S.Source.left c.args.source.now) in
    if_ok c.assertion_reply.result (λ (r : Reply). IsAsserted text_of a c.in-Assert.task second r.status r.text r.journal.items)
    (λ (r : Reply). IsProgramReply text_of a texts c.args.reading second r.status r.text r.journal.items)
    (λ r is. subst (λ m. IsProgramReply text_of a texts m second r.status r.text r.journal.items) (sym c.in-Assert.is) is) c.assertion_reply.ensures.reply

pub returns-in-Check-clause-reply : goal.returns-in-Check-clause-reply
returns-in-Check-clause-reply g c =
    let base = g.C.Chip.base c.args.chip.now in
    let text_of = g.C.InstrText.text_of c.args.chip.now in
    let a = g.C.Chip.analysis base in
    let texts = g.C.StateText.texts base in
    let second = begun_with c.args.begun.now (g.S.Source.left c.args.source.now) in
    if_both c.verdict_reply.result (λ (r : Reply). IsChecked text_of a texts second r.status r.text)
    (λ (r : Reply). r.journal.items ≡ []) (λ (r : Reply). IsProgramReply text_of a texts c.args.reading second r.status r.text r.journal.items)
    (λ r is none. subst (λ m. IsProgramReply text_of a texts m second r.status r.text r.journal.items) (sym c.in-Check.is) (is, none))
    c.verdict_reply.ensures.reply c.verdict_reply.ensures.journal
