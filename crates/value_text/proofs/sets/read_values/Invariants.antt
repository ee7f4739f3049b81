use Rattle.std.proofs.Common.{◌≡◌, ◌≤◌, ◌++◌, length}
use Rattle.std.specs.Option.{option_map}
use Rattle.text_fields.specs.Numbers.{hex_number}
use Rattle.text_fields.specs.Lists.{listed}
use Rattle.value_text.proofs.sets.read_values.Given as goal

-- the numbers so far, and those of the rest, are all
abbrev pub invariant-loop-first : goal.invariant-loop-first
invariant-loop-first l =
    ((listed (hex_number l.digits) 44).value l.text ≡ option_map (λ more. l.values ++ more) ((listed (hex_number l.digits) 44).value l.rest))
    × (length l.values ≤ 16)

abbrev pub decreases-loop-first : goal.decreases-loop-first
decreases-loop-first l = length l.rest
