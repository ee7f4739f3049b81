use Rattle.std.proofs.Common.{◌≡◌}
use Rattle.vsa_top.proofs.InputLemmas.{IsTaken}
use Rattle.vsa_top.proofs.input.image_in.Given as goal

-- the reader has what the source gave
abbrev pub invariant-loop-reader : goal.invariant-loop-reader
invariant-loop-reader g l =
    let left = g.S.Source.left in
    let faults = g.S.Source.faults in
    IsTaken l.fn.rules l.fn.tail (left l.fn.source) (left l.source) l.reader l.room × (faults l.source ≡ faults l.fn.source)

abbrev pub decreases-loop-reader : goal.decreases-loop-reader
decreases-loop-reader g l = l.room
