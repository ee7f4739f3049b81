use Rattle.std.proofs.Common.{◌≡◌, ◌+◌, ◌*◌, map, take}
use Rattle.std.specs.List.{flat_map}
use Rattle.value_bits.specs.Bits.{choices}
use Rattle.value_bits.proofs.making.longer.Given as goal

abbrev pub invariant-loop-other : goal.invariant-loop-other
invariant-loop-other l = l.all.items ≡ flat_map (λ v. map (λ low. 2 * v + low) (choices l.bit)) (take l.other-index l.others)
