use Rattle.std.proofs.Common.{◌≡◌, ◌-◌}
use Rattle.run_trace.specs.Trace.{after, run_from, run_of}
use Rattle.run_trace.proofs.trace.trace_of.Given as goal

-- the text so far, followed by the rest of the run, is the whole run's
abbrev pub invariant-loop-done : goal.invariant-loop-done
invariant-loop-done g l =
    let runner = g.E.Emulator.runner l.fn.machine in
    let text_of = g.T.InstrText.text_of l.texts in
    (after l.text (run_from runner text_of (l.steps - l.done) l.done (g.E.Emulator.state l.machine) l.choices)
    ≡ run_of runner text_of l.fn.steps (g.E.Emulator.state l.fn.machine) l.fn.script.items)
    × (g.E.Emulator.runner l.machine ≡ runner)
