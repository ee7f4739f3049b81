use Rattle.std.proofs.Common.{◌≡◌, drop}
use Rattle.value_set.specs.Form.{members}
use Rattle.msp430_alu.specs.Memory.{read_each}
use Rattle.msp430_alu.proofs.reading.joined.Given as goal

abbrev pub invariant-loop-place : goal.invariant-loop-place
invariant-loop-place g l = read_each l.device l.state l.width l.set (drop l.place (members 65536 l.at)) ≡ read_each l.device l.state l.width l.fn.first (drop 1 (members 65536 l.at))
