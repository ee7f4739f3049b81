use Rattle.std.proofs.Common.{◌≡◌, ◌-◌, ◌+◌, Some, None, ◌++◌, ap, subst, ◌∙◌, arith}
use Rattle.std.specs.Prelude.{map}
use Rattle.choosing.specs.Outcome.Outcome.{Next, Wild as Leaves}
use Rattle.run_trace.specs.Runner.{Runner}
use Rattle.run_trace.specs.Trace.{end_line, run_of, wild_line}
use Rattle.run_trace.specs.declared.trace.End.TheVariants.{Ran, Wild, NeedChoice}
use Rattle.run_trace.proofs.TraceLemmas.{met, went_wild, lacked, ended, told}
use Rattle.run_trace.proofs.trace.trace_of.Goals as goal

pub returns-in-Wild : goal.returns-in-Wild
returns-in-Wild g c =
    let runner = g.E.Emulator.runner c.args.machine.now in
    let text_of = g.T.InstrText.text_of c.args.texts.now in
    let s = g.E.Emulator.state c.loop-done.machine in
    let choices = c.loop-done.choices in
    let whole = run_of runner text_of c.args.steps (g.E.Emulator.state c.args.machine.now) c.args.script.items in
    let text = c.loop-done.text ++ c.in_ok-line-in-Wild.line.items in
    let step = c.in-Wild.ensures.step in
    told c.ended.result Wild text whole
    (went_wild runner text_of (c.args.steps - c.loop-done.done) (c.args.steps - (c.loop-done.done + 1)) c.loop-done.done s choices step.1 step.0
    c.loop-done.text text whole (omega (arith, c.loop-done-test.true))
    (subst (λ (r : Runner _ _). r.step s choices ≡ Some (Leaves step.0, step.1)) c.loop-done.invariant.1 step.2)
    (ap (λ line. c.loop-done.text ++ line) (c.in_ok-line-in-Wild.ensures ∙ ap (λ pc. wild_line (c.loop-done.done + 1) pc)
    (subst (λ (r : Runner _ _). c.pc-pc.result ≡ r.pc s) c.loop-done.invariant.1 c.pc-pc.ensures))) c.loop-done.invariant.0)
    c.ended.ensures.end c.ended.ensures.text

pub returns-in-NeedChoice : goal.returns-in-NeedChoice
returns-in-NeedChoice g c =
    let runner = g.E.Emulator.runner c.args.machine.now in
    let text_of = g.T.InstrText.text_of c.args.texts.now in
    let s = g.E.Emulator.state c.loop-done.machine in
    let choices = c.loop-done.choices in
    let whole = run_of runner text_of c.args.steps (g.E.Emulator.state c.args.machine.now) c.args.script.items in
    let text = c.loop-done.text ++ c.in_ok-line-in-NeedChoice.line.items in
    told c.ended-in-NeedChoice.result NeedChoice text whole
    (lacked runner text_of (c.args.steps - c.loop-done.done) (c.args.steps - (c.loop-done.done + 1)) c.loop-done.done s choices
    c.loop-done.text text whole (omega (arith, c.loop-done-test.true))
    (subst (λ (r : Runner _ _). r.step s choices ≡ None) c.loop-done.invariant.1 c.in-NeedChoice.ensures.step)
    (ap (λ line. c.loop-done.text ++ line) c.in_ok-line-in-NeedChoice.ensures) c.loop-done.invariant.0)
    c.ended-in-NeedChoice.ensures.end c.ended-in-NeedChoice.ensures.text

pub loop-done-preserved : goal.loop-done-preserved
loop-done-preserved g c =
    let runner = g.E.Emulator.runner c.args.machine.now in
    let text_of = g.T.InstrText.text_of c.args.texts.now in
    let s = g.E.Emulator.state c.loop-done.machine in
    let t = g.E.Emulator.state c.step.new.self in
    let choices = c.loop-done.choices in
    let rest = c.step.new.choices in
    let whole = run_of runner text_of c.args.steps (g.E.Emulator.state c.args.machine.now) c.args.script.items in
    let step = c.in-Met.ensures.step in
    let same = c.loop-done.invariant.1 in (
      met runner text_of (c.args.steps - c.loop-done.done) (c.args.steps - (c.loop-done.done + 1)) c.loop-done.done s t choices rest step.0 c.as_slice.result.now
          c.loop-done.text c.push_step.new.text whole (omega (arith, c.loop-done-test.true))
          (subst (λ (r : Runner _ _). r.step s choices ≡ Some (Next step.0 t, rest)) same step.1)
          (c.as_slice.ensures.value ∙ subst (λ (r : Runner _ _). c.in-Met.items.items ≡ map r.item step.0) same step.2)
          c.in_ok-push_step-in-Met.ensures c.loop-done.invariant.0,
      c.in-Met.ensures.program ∙ same,
    )

pub returns : goal.returns
returns g c =
    let runner = g.E.Emulator.runner c.args.machine.now in
    let text_of = g.T.InstrText.text_of c.args.texts.now in
    let whole = run_of runner text_of c.args.steps (g.E.Emulator.state c.args.machine.now) c.args.script.items in
    let text = c.loop-done.text ++ c.in_ok-line.line.items in
    let last : c.args.steps ≡ c.loop-done.done = omega (arith, c.loop-done-test.false, c.loop-done.auto.done-end) in
    told c.ended-2.result Ran text whole
    (ended runner text_of (c.args.steps - c.loop-done.done) c.loop-done.done (g.E.Emulator.state c.loop-done.machine) c.loop-done.choices
    c.loop-done.text text whole (omega (arith, c.loop-done-test.false))
    (ap (λ line. c.loop-done.text ++ line) (c.in_ok-line.ensures ∙ ap (λ n. end_line n) last)) c.loop-done.invariant.0)
    c.ended-2.ensures.end c.ended-2.ensures.text
