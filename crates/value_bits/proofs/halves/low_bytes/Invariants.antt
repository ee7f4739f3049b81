use Rattle.std.proofs.Common.{◌≡◌, map, take}
use Rattle.value_set.specs.Form.{members}
use Rattle.chip_numbers.specs.Numbers.{low_byte}
use Rattle.value_bits.proofs.halves.low_bytes.Given as goal

abbrev pub invariant-loop-place : goal.invariant-loop-place
invariant-loop-place l = l.all.items ≡ map (λ x. low_byte x) (take l.place (members 65536 l.a))
