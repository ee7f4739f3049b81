use Rattle.std.proofs.Common.{◌≡◌, map, take}
use Rattle.value_set.specs.Form.{members}
use Rattle.mcs51_alu.specs.LinearFacts.{linear_value}
use Rattle.mcs51_alu.proofs.linear.each_value.Given as goal

abbrev pub invariant-loop-place : goal.invariant-loop-place
invariant-loop-place l = l.all.items ≡ map (linear_value l.fact) (take l.place (members 256 l.set))
