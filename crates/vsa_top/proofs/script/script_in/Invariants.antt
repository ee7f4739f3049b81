use Rattle.std.proofs.Common.{◌≡◌}
use Rattle.vsa_top.specs.Input.{begun_with}
use Rattle.vsa_top.proofs.ScriptLemmas.{IsFed}
use Rattle.vsa_top.proofs.script.script_in.Given as goal

-- the reader was given what the source gave
abbrev pub invariant-loop-reader : goal.invariant-loop-reader
invariant-loop-reader g l =
    let left = g.S.Source.left in
    let faults = g.S.Source.faults in
    IsFed (begun_with l.fn.begun (left l.fn.source)) (left l.source) l.reader l.room × (faults l.source ≡ faults l.fn.source)

abbrev pub decreases-loop-reader : goal.decreases-loop-reader
decreases-loop-reader g l = l.room
