use Rattle.std.proofs.Common.{◌≡◌, take}
use Rattle.value_set.specs.Form.{members}
use Rattle.value_bits.specs.Sets.{words}
use Rattle.value_bits.proofs.halves.words_of.Given as goal

abbrev pub invariant-loop-place : goal.invariant-loop-place
invariant-loop-place l = l.all.items ≡ words (take l.place (members 256 l.low)) (members 256 l.high)
