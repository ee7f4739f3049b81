-- Which table it is.
use Rattle.atomic_table.specs.Seated.{TableId}
use Rattle.turn_table.specs.Named.{name_of}
use Rattle.fact_table.specs.declared.table.FactTable.{FactTable}

-- the table's name, which no other table has; each of its seats shows it
abbrev pub table_of : {C B A : Type 0} → FactTable C B A → TableId
table_of t = name_of t.turns
