use Rattle.std.proofs.Common.{◌≡◌, ◌-◌, length}
use Rattle.vsa_top.specs.Input.{begun_with}
use Rattle.vsa_top.proofs.second.second_in.Given as goal

-- the text that was read, and what the source has left
abbrev pub invariant-loop-buffer : goal.invariant-loop-buffer
invariant-loop-buffer g l =
    let left = g.S.Source.left in
    let faults = g.S.Source.faults in
    (begun_with l.fn.begun (left l.fn.source) ≡ begun_with l.text.items (left l.source)) × (faults l.source ≡ faults l.fn.source)

abbrev pub decreases-loop-buffer : goal.decreases-loop-buffer
decreases-loop-buffer g l = 268435457 - length l.text.items
