use Rattle.std.proofs.Common.{arith}
use Rattle.std.proofs.lemmas.Grind.{common_steps}
use Rattle.plain_lemmas.specs.Members.{range_left, range_taken}
use Rattle.msp430_chip.specs.Interrupts.{may_come}
use Rattle.msp430_emu.proofs.interrupt.raised.Goals as goal
use Rattle.msp430_emu.proofs.interrupt.raised.Goals.{then-may_come, else-may_come}

pub loop-vector-preserved : goal.loop-vector-preserved
loop-vector-preserved c = elim c.if-may_come.branch [
  | then-may_come w ↦ (let e = range_taken (may_come c.args.layout.now) c.loop-vector.vector (w.if-may_come.ensures) in
      record { vectors = cc; below = rw w.vectors-is (grind (arith, common_steps, c.loop-vector.invariant.below)); room = grind (arith, common_steps) })
  | else-may_come w ↦ (let e = range_left (may_come c.args.layout.now) c.loop-vector.vector (w.if-may_come.ensures) in
      record { vectors = cc; below = rw w.vectors-is c.loop-vector.invariant.below; room = grind (arith, common_steps) })
]
