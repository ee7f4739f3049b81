use Rattle.std.proofs.Common.{ℕ, ◌<◌, slice_index}
use Rattle.value_set.specs.Form.{Has, members}
use Rattle.value_set.proofs.member.each_is_in.Given as goal

abbrev pub invariant-loop-place : goal.invariant-loop-place
invariant-loop-place l = (k : ℕ) → k < l.place → Has l.modulus l.larger (slice_index (members l.modulus l.smaller) k)
