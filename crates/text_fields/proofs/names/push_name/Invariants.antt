use Rattle.std.proofs.Common.{◌≡◌, map, drop}
use Rattle.text_fields.specs.Fields.{name_in}
use Rattle.text_fields.proofs.names.push_name.Given as goal

-- no number that was passed is the one
abbrev pub invariant-loop-row : goal.invariant-loop-row
invariant-loop-row l = (l.out.items ≡ l.initial.out.items)
    × (name_in (map (λ row. (row.0, row.1.now)) l.table) l.number ≡ name_in (map (λ row. (row.0, row.1.now)) (drop l.row-index l.table)) l.number)
