use Rattle.std.proofs.Common.{sym, subst, ◌∙◌}
use Rattle.std.specs.Prelude.{IfSome}
use Rattle.image.specs.declared.rule_set.Rules.{Rules}
use Rattle.image.specs.declared.tail.Tail.{Tail}
use Rattle.vsa_top.specs.Answer.{IsImageReply, IsReply}
use Rattle.vsa_top.specs.Answer.IsReply.{of_image, of_bad}
use Rattle.vsa_top.specs.Input.{InputGives, LacksImage, begun_with}
use Rattle.vsa_words.specs.Words.{rules_of, tail_of}
use Rattle.vsa_top.specs.declared.reply.Reply.{Reply}
use Rattle.vsa_top.proofs.ReplyLemmas.{if_ok}
use Rattle.vsa_top.proofs.reply.input_reply.Goals as goal

pub returns-in-Ok-clause-reply : goal.returns-in-Ok-clause-reply
returns-in-Ok-clause-reply g c =
    let reading = c.args.reading in
    let input = g.S.Source.left c.args.source.now in
    let image = c.in-Ok.image in
    let left = g.S.Source.left c.image_in.new.source in
    let second = begun_with c.as_slice.result.now left in
    let told = subst (λ (t : Tail). InputGives (rules_of reading) t input (begun_with c.in-Ok.begun.items left) image) c.tail.ensures
    (subst (λ (rules : Rules). InputGives rules c.tail.result input (begun_with c.in-Ok.begun.items left) image) c.rules.ensures c.in-Ok.ensures.image) in
    let gives = subst (λ b. InputGives (rules_of reading) (tail_of reading) input (begun_with b left) image) (sym c.as_slice.ensures.value) told in
    if_ok c.image_reply.result
    (λ (r : Reply). IsImageReply reading image second r.status r.text r.journal.items)
    (λ (r : Reply). IsReply reading input r.status r.text r.journal.items) (λ r reply. of_image image second gives reply) c.image_reply.ensures.reply

pub returns-in_ok-text-in-Err-Bad-clause-reply : goal.returns-in_ok-text-in-Err-Bad-clause-reply
returns-in_ok-text-in-Err-Bad-clause-reply g c =
    let reading = c.args.reading in
    let input = g.S.Source.left c.args.source.now in
    let refused = subst (λ (t : Tail). IfSome input (λ text. LacksImage (rules_of reading) t text c.in-Err-Bad.field-0)) c.tail.ensures
    (subst (λ (rules : Rules). IfSome input (λ text. LacksImage rules c.tail.result text c.in-Err-Bad.field-0)) c.rules.ensures c.in-Err-Bad.ensures.refused) in
    let line_is = rw (c.in-Err-Bad.line-is, c.in-Err-Bad.fault-is) at (c.text_reply.ensures.text ∙ c.in_ok-text-in-Err-Bad.ensures) in
    of_bad c.in-Err-Bad.line c.in-Err-Bad.fault
    (subst (λ e. IfSome input (λ text. LacksImage (rules_of reading) (tail_of reading) text e)) c.in-Err-Bad.field-0-is refused)
    c.text_reply.ensures.status line_is c.text_reply.ensures.journal
