use Rattle.std.proofs.Common.{◌≡◌, drop}
use Rattle.mcs51_state.specs.Writing.{touch_each}
use Rattle.mcs51_state.proofs.ram.touch_each.Given as goal

abbrev pub invariant-loop-address : goal.invariant-loop-address
invariant-loop-address l = touch_each (drop l.address-index l.at) l.touched ≡ touch_each l.at l.fn.touched
