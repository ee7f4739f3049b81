use Rattle.std.proofs.Common.{arith, ap, ◌∙◌, List, ℕ, ◌-◌, take, map, length, true, false, inl, inr, length-set}
use Rattle.std.proofs.Math.ListN.{length-replicate}
use Rattle.value_set.proofs.Gaps.{pushed, marked_here, marked_elsewhere, no_marks}
use Rattle.value_set.proofs.long.marks_of.Goals as goal
use Rattle.value_set.proofs.long.marks_of.Goals.{then-low-number+then-number-low, else-low-number, else-low-number-via-then-low-number+else-number-low, else-low-number-via-else-low-number}

pub loop-number-init : goal.loop-number-init
loop-number-init g c = record { marks = no_marks c.args.low; size = length-replicate 4096 false }

pub loop-number-preserved : goal.loop-number-preserved
loop-number-preserved g c =
    let more = pushed g.N.Number.number c.args.list.now c.loop-number.number-index c.number-number.result c.number-item.result c.loop-number-test.true c.number-item.is c.number-number.ensures in
    let so_far : List ℕ = map g.N.Number.number (take c.loop-number.number-index c.args.list.now) in
    elim c.if-low-number.branch [
      | then-low-number+then-number-low w ↦ record {
        marks = rw (more, w.marked-is)
            (marked_here c.args.low c.number-number.result (c.number-number.result - c.args.low) so_far c.loop-number.marked c.loop-number.invariant.marks c.loop-number.invariant.size (omega arith) (omega arith));
        size = ap length w.marked-is ∙ length-set c.loop-number.marked (c.number-number.result - c.args.low) true ∙ c.loop-number.invariant.size;
      }
      | else-low-number w ↦ record {
        marks = rw (more, w.marked-is)
            (marked_elsewhere c.args.low c.number-number.result so_far c.loop-number.marked c.loop-number.invariant.marks (elim w.else-low-number.branch [
              | else-low-number-via-then-low-number+else-number-low w' ↦ inr (omega arith)
              | else-low-number-via-else-low-number w' ↦ inl (omega arith)
            ]));
        size = ap length w.marked-is ∙ c.loop-number.invariant.size;
      }
    ]
