use Rattle.std.proofs.Common.{ℕ, List, sym, subst}
use Rattle.std.specs.Prelude.{IfOk, Option}
use Rattle.mcs51_chip.specs.declared.state.ChipState.{ChipState as Mcs51State}
use Rattle.msp430_chip.specs.declared.device.Device.{Device}
use Rattle.msp430_chip.specs.declared.state.ChipState.{ChipState as Msp430State}
use Rattle.mcs51_flow.specs.Standing.{instr_text as mcs51_text}
use Rattle.msp430_flow.specs.Standing.{instr_text as msp430_text}
use Rattle.run_trace.specs.Trace.{run_of}
use Rattle.vsa_top.specs.Answer.{IsRun, run_under}
use Rattle.vsa_top.specs.Input.{begun_with}
use Rattle.vsa_top.specs.Mcs51.{mcs51_runner}
use Rattle.vsa_top.specs.Msp430.{msp430_runner}
use Rattle.vsa_top.specs.declared.reply.Reply.{Reply}
use Rattle.vsa_top.proofs.reply.chip_run_reply.Goals as goal

pub returns-in_ok-run-in-Msp430-clause-run : goal.returns-in_ok-run-in-Msp430-clause-run
returns-in_ok-run-in-Msp430-clause-run g c =
    let steps = c.args.steps in
    let second = begun_with c.args.begun.now (g.S.Source.left c.args.source.now) in
    subst (λ target. IfOk c.run_reply.result (λ (r : Reply). IsRun (run_under target steps c.args.image) second r.status r.text)) (sym c.in-Msp430.is)
    (subst (λ (run : Device × Msp430State). IfOk c.run_reply.result
    (λ (r : Reply). IsRun (run_of (msp430_runner run.0) msp430_text steps run.1) second r.status r.text)) c.in_ok-run-in-Msp430.ensures c.run_reply.ensures.run)

pub returns-in-Mcs51-clause-run : goal.returns-in-Mcs51-clause-run
returns-in-Mcs51-clause-run g c =
    let steps = c.args.steps in
    let second = begun_with c.args.begun.now (g.S.Source.left c.args.source.now) in
    subst (λ target. IfOk c.run_reply-in-Mcs51.result (λ (r : Reply). IsRun (run_under target steps c.args.image) second r.status r.text)) (sym c.in-Mcs51.is)
    (subst (λ (run : List (Option ℕ) × Mcs51State). IfOk c.run_reply-in-Mcs51.result
    (λ (r : Reply). IsRun (run_of (mcs51_runner run.0) mcs51_text steps run.1) second r.status r.text)) c.reset-run.ensures c.run_reply-in-Mcs51.ensures.run)
