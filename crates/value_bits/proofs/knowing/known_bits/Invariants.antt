use Rattle.std.proofs.Common.{◌≡◌, map}
use Rattle.std.specs.List.{range_with_len}
use Rattle.value_bits.specs.Bits.{known_bit}
use Rattle.value_bits.proofs.knowing.known_bits.Given as goal

abbrev pub invariant-loop-place : goal.invariant-loop-place
invariant-loop-place l = l.known.items ≡ map (λ place. known_bit l.width place l.set) (range_with_len 0 l.place)
