use Rattle.std.proofs.Common.{sym, subst}
use Rattle.std.specs.Prelude.{IfOk}
use Rattle.mcs51_flow.specs.Chip.{mcs51_analysis}
use Rattle.mcs51_flow.specs.Standing.{instr_text as mcs51_text}
use Rattle.mcs51_flow.specs.Texts.{mcs51_texts}
use Rattle.mcs51_flow.specs.declared.setting.Setting.{Setting as Mcs51Setting}
use Rattle.msp430_flow.specs.Chip.{msp430_analysis}
use Rattle.msp430_flow.specs.Standing.{instr_text as msp430_text}
use Rattle.msp430_flow.specs.Texts.{msp430_texts}
use Rattle.msp430_flow.specs.declared.setting.Setting.{Setting as Msp430Setting}
use Rattle.vsa_top.specs.Answer.{IsAskedOn, IsProgramReply}
use Rattle.vsa_top.specs.Input.{begun_with}
use Rattle.vsa_top.specs.declared.reply.Reply.{Reply}
use Rattle.vsa_top.proofs.asked.asked_of.Goals as goal

pub returns-in_ok-chip-in-Msp430-clause-reply : goal.returns-in_ok-chip-in-Msp430-clause-reply
returns-in_ok-chip-in-Msp430-clause-reply g c =
    let limits = c.args.task.limits in
    let reading = c.args.reading in
    let second = begun_with c.args.begun.now (g.S.Source.left c.args.source.now) in
    subst (λ target. IfOk c.asked.result (λ (r : Reply). IsAskedOn target limits c.args.image reading second r.status r.text r.journal.items))
    (sym c.in-Msp430.is)
    (subst (λ (setting : Msp430Setting). IfOk c.asked.result
    (λ (r : Reply). IsProgramReply msp430_text (msp430_analysis setting) (msp430_texts setting.device) reading second r.status r.text r.journal.items))
    c.in_ok-chip-in-Msp430.ensures c.asked.ensures.reply)

pub returns-in_ok-chip-in-Mcs51-clause-reply : goal.returns-in_ok-chip-in-Mcs51-clause-reply
returns-in_ok-chip-in-Mcs51-clause-reply g c =
    let limits = c.args.task.limits in
    let reading = c.args.reading in
    let second = begun_with c.args.begun.now (g.S.Source.left c.args.source.now) in
    subst (λ target. IfOk c.asked-in-Mcs51.result (λ (r : Reply). IsAskedOn target limits c.args.image reading second r.status r.text r.journal.items))
    (sym c.in-Mcs51.is)
    (subst (λ (setting : Mcs51Setting). IfOk c.asked-in-Mcs51.result
    (λ (r : Reply). IsProgramReply mcs51_text (mcs51_analysis setting) mcs51_texts reading second r.status r.text r.journal.items))
    c.in_ok-chip-in-Mcs51.ensures c.asked-in-Mcs51.ensures.reply)
