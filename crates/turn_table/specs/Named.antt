-- Which table it is.
use Rattle.atomic_table.specs.Seated.{TableId}
use Rattle.turn_table.specs.declared.table.TurnTable.{TurnTable}

-- the table's name, which no other table has; each of its seats shows it
abbrev pub name_of : {B E C : Type 0} → TurnTable B E C → TableId
name_of t = t.board.shared.table_id
