use Rattle.std.proofs.Common.{◌≡◌}
use Rattle.value_set.specs.Form.{ascending, steps}
use Rattle.value_set.proofs.gathering.few_steps.Given as goal

abbrev pub invariant-loop-place : goal.invariant-loop-place
invariant-loop-place l = l.values.items ≡ ascending (steps l.modulus l.base l.stride l.place)
