use Rattle.std.proofs.Common.{sym, subst}
use Rattle.vsa_top.specs.Answer.{Answers}
use Rattle.vsa_top.specs.Answer.Answers.{replied}
use Rattle.vsa_top.proofs.top.answer.Goals as goal

pub returns-in-Ok-clause-answer : goal.returns-in-Ok-clause-answer
returns-in-Ok-clause-answer g c =
    let reading = c.args.reading in
    let input = g.S.Source.left c.args.source.now in
    let before = g.K.Sink.held c.args.sink.now in
    let after = g.K.Sink.held c.reply_written.new.sink in
    let reply = c.in-Ok.field-0 in
    let answered = c.reply_written.result.status in
    subst (λ journal. Answers reading answered input before after journal) (sym c.reply_written.ensures.journal)
    (replied reply.status reply.text c.in-Ok.ensures.reply
    c.reply_written.ensures.written)
