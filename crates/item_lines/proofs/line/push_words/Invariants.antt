use Rattle.std.proofs.Common.{◌≡◌, ◌++◌, ◌∷◌, take}
use Rattle.std.specs.List.{flat_map}
use Rattle.hex_digits.specs.Digits.{hex}
use Rattle.item_lines.proofs.line.push_words.Given as goal

abbrev pub invariant-loop-word : goal.invariant-loop-word
invariant-loop-word l = l.line.items ≡ l.initial.line.items ++ flat_map (λ y. 44 ∷ hex 4 y) (take l.word-index l.rest)
