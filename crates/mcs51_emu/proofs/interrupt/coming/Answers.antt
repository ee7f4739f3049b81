use Rattle.std.proofs.Common.{arith}
use Rattle.std.proofs.lemmas.Grind.{common_steps}
use Rattle.plain_lemmas.specs.Members.{range_left, range_taken}
use Rattle.mcs51_chip.specs.Interrupts.{may_come}
use Rattle.mcs51_emu.proofs.interrupt.coming.Goals as goal
use Rattle.mcs51_emu.proofs.interrupt.coming.Goals.{then-may_come, else-may_come}

pub loop-source-preserved : goal.loop-source-preserved
loop-source-preserved c = elim c.if-may_come.branch [
  | then-may_come w ↦ (let e = range_taken (may_come c.args.s.now) c.loop-source.source (w.if-may_come.ensures) in
      record { sources = cc; below = rw w.sources-is (grind (arith, common_steps, c.loop-source.invariant.below)); room = grind (arith, common_steps) })
  | else-may_come w ↦ (let e = range_left (may_come c.args.s.now) c.loop-source.source (w.if-may_come.ensures) in
      record { sources = cc; below = rw w.sources-is c.loop-source.invariant.below; room = grind (arith, common_steps) })
]
