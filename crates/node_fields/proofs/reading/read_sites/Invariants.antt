use Rattle.std.proofs.Common.{◌≡◌, ◌≤◌, ◌++◌, length}
use Rattle.std.specs.Option.{option_map}
use Rattle.text_fields.specs.Numbers.{hex_number}
use Rattle.text_fields.specs.Lists.{listed}
use Rattle.node_fields.proofs.reading.read_sites.Given as goal

-- the sites so far, and those of the rest, are all
abbrev pub invariant-loop-first : goal.invariant-loop-first
invariant-loop-first l =
    ((listed (hex_number 4) 44).value l.text ≡ option_map (λ more. l.sites ++ more) ((listed (hex_number 4) 44).value l.rest)) × (length l.sites ≤ 8)

abbrev pub decreases-loop-first : goal.decreases-loop-first
decreases-loop-first l = length l.rest
