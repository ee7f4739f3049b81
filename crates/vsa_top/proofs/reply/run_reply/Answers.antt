use Rattle.std.proofs.Common.{◌≡◌, ap, subst, ◌∙◌}
use Rattle.std.specs.Prelude.{IfSome}
use Rattle.run_trace.specs.Trace.{Ended, run_of}
use Rattle.vsa_top.specs.Answer.{status_of_end}
use Rattle.vsa_top.specs.Answer.IsRun.{ran, refused}
use Rattle.vsa_top.specs.Input.{begun_with}
use Rattle.vsa_top.specs.Scripts.{LacksScript}
use Rattle.vsa_top.proofs.reply.run_reply.Goals as goal

pub returns-in_ok-trace-in-Ok-clause-run : goal.returns-in_ok-trace-in-Ok-clause-run
returns-in_ok-trace-in-Ok-clause-run g c =
    let script = c.in-Ok.script.items in
    let trace = c.in_ok-trace-in-Ok.trace in
    let is : (trace.end, trace.text) ≡ run_of (g.E.Emulator.runner c.args.machine.now) (g.T.InstrText.text_of c.args.texts.now) c.args.steps
    (g.E.Emulator.state c.args.machine.now) script = c.in_ok-trace-in-Ok.ensures in
    ran script c.in-Ok.ensures.script (c.built_reply.ensures.status ∙ c.status_of_run.ensures ∙ ap (λ (e : Ended). status_of_end e.0) is)
    (c.built_reply.ensures.text ∙ ap (λ (e : Ended). e.1) is)

pub returns-in_ok-text-in-Err-Syntax-clause-run : goal.returns-in_ok-text-in-Err-Syntax-clause-run
returns-in_ok-text-in-Err-Syntax-clause-run g c =
    let second = begun_with c.args.begun.now (g.S.Source.left c.args.source.now) in
    refused c.in-Err-Syntax.line (subst (λ e. IfSome second (λ text. LacksScript text e)) c.in-Err-Syntax.field-0-is c.in-Err-Syntax.ensures.refused)
    c.text_reply.ensures.status (c.text_reply.ensures.text ∙ c.in_ok-text-in-Err-Syntax.ensures)
