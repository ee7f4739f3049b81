use Rattle.std.proofs.Common.{◌≡◌, drop}
use Rattle.msp430_alu.specs.Memory.{touch_each}
use Rattle.msp430_alu.proofs.stores.touch_each.Given as goal

abbrev pub invariant-loop-first : goal.invariant-loop-first
invariant-loop-first l =
    touch_each l.lo l.hi l.size (drop l.first-index l.at) l.touched ≡ touch_each l.lo l.hi l.size l.at l.fn.touched
