use Rattle.std.proofs.Common.{◌≡◌, ◌++◌, map, take}
use Rattle.value_set.specs.Form.{members}
use Rattle.chip_numbers.specs.Numbers.{word_of}
use Rattle.value_bits.proofs.halves.push_words.Given as goal

abbrev pub invariant-loop-place : goal.invariant-loop-place
invariant-loop-place l = l.all.items ≡ l.initial.all.items ++ map (λ y. word_of l.low y) (take l.place (members 256 l.high))
