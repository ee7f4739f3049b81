use Rattle.std.proofs.Common.{◌≡◌, map}
use Rattle.std.specs.List.{range_with_len}
use Rattle.value_bits.specs.Bits.{known_bit, tri_logic}
use Rattle.value_bits.proofs.knowing.logic_bits.Given as goal

abbrev pub invariant-loop-place : goal.invariant-loop-place
invariant-loop-place l = l.known.items ≡ map (λ place. tri_logic l.logic (known_bit l.width place l.first) (known_bit l.width place l.second)) (range_with_len 0 l.place)
