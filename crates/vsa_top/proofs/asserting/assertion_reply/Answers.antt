use Rattle.std.proofs.Common.{subst, sym}
use Rattle.std.specs.Prelude.{IfSome}
use Rattle.vsa_top.specs.Answer.IsAsserted.{asserted, unread}
use Rattle.vsa_top.specs.Asserted.{AreAsserted, LacksAssertions, spaces_of}
use Rattle.vsa_top.specs.Input.{begun_with}
use Rattle.vsa_top.proofs.asserting.assertion_reply.Goals as goal

pub returns-in_ok-chip_decision-in-Ok-clause-reply : goal.returns-in_ok-chip_decision-in-Ok-clause-reply
returns-in_ok-chip_decision-in-Ok-clause-reply g c =
    let second = begun_with c.args.begun.now (g.S.Source.left c.args.source.now) in
    asserted c.as_slice.result.now
    (subst (λ list. IfSome second (λ text. AreAsserted (spaces_of c.args.task.target) text list)) (sym c.as_slice.ensures.value) c.in-Ok.ensures.list)
    c.in_ok-chip_decision-in-Ok.ensures

pub returns-in_ok-text-in-Err-Syntax-clause-reply : goal.returns-in_ok-text-in-Err-Syntax-clause-reply
returns-in_ok-text-in-Err-Syntax-clause-reply g c =
    let second = begun_with c.args.begun.now (g.S.Source.left c.args.source.now) in
    unread c.in-Err-Syntax.line
    (subst (λ e. IfSome second (λ text. LacksAssertions (spaces_of c.args.task.target) text e)) c.in-Err-Syntax.field-0-is c.in-Err-Syntax.ensures.refused)
    c.text_reply.ensures.status (cc (c.text_reply.ensures.text, c.in_ok-text-in-Err-Syntax.ensures, c.in-Err-Syntax.line-is)) c.text_reply.ensures.journal
