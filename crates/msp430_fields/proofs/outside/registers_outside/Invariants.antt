use Rattle.std.proofs.Common.{◌≡◌, drop}
use Rattle.msp430_fields.specs.Outside.{registers_outside}
use Rattle.msp430_fields.specs.Places.{register_rows}
use Rattle.msp430_fields.proofs.outside.registers_outside.Given as goal

-- each register that was passed is within
abbrev pub invariant-loop-i : goal.invariant-loop-i
invariant-loop-i l = registers_outside register_rows l.new l.held ≡ registers_outside (drop l.i register_rows) (drop l.i l.new) (drop l.i l.held)
