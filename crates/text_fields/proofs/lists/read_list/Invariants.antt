use Rattle.std.proofs.Common.{◌≡◌, ◌++◌, length}
use Rattle.std.specs.Option.{option_map}
use Rattle.text_fields.specs.Lists.{listed}
use Rattle.text_fields.proofs.lists.read_list.Given as goal

-- the values so far, and those of the rest, are all
abbrev pub invariant-loop-first : goal.invariant-loop-first
invariant-loop-first g l =
    (listed (g.F.Field.field l.field) l.between).value l.text
    ≡ option_map (λ more. l.values.items ++ more) ((listed (g.F.Field.field l.field) l.between).value l.rest)

abbrev pub decreases-loop-first : goal.decreases-loop-first
decreases-loop-first g l = length l.rest
