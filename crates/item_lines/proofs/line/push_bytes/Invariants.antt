use Rattle.std.proofs.Common.{◌≡◌, ◌++◌, ◌∷◌, take}
use Rattle.std.specs.List.{flat_map}
use Rattle.hex_digits.specs.Digits.{hex}
use Rattle.item_lines.proofs.line.push_bytes.Given as goal

abbrev pub invariant-loop-value : goal.invariant-loop-value
invariant-loop-value l = l.line.items ≡ l.initial.line.items ++ flat_map (λ y. 44 ∷ hex 2 y) (take l.value-index l.rest)
