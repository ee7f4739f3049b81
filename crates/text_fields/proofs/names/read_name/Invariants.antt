use Rattle.std.proofs.Common.{◌≡◌, map, drop}
use Rattle.text_fields.specs.Fields.{number_in}
use Rattle.text_fields.proofs.names.read_name.Given as goal

-- no name that was passed is the text
abbrev pub invariant-loop-row : goal.invariant-loop-row
invariant-loop-row l = number_in (map (λ row. (row.0, row.1.now)) l.table) l.text
    ≡ number_in (map (λ row. (row.0, row.1.now)) (drop l.row-index l.table)) l.text
