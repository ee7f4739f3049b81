use Rattle.std.proofs.Common.{◌≡◌, ◌++◌, drop}
use Rattle.text_fields.specs.Lists.{others_text}
use Rattle.text_fields.proofs.lists.push_list.Given as goal

-- the text so far, with those of the values that are left
abbrev pub invariant-loop-value : goal.invariant-loop-value
invariant-loop-value g l = l.out.items ++ others_text (g.F.Field.field l.field) l.between (drop l.value-index l.others)
    ≡ l.initial.out.items ++ others_text (g.F.Field.field l.field) l.between l.others
