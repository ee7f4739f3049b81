-- Cells of which a handler begins: they keep their sets, and remember nothing of the state that an earlier interrupt
-- suspended (G. Balakrishnan and T. Reps, "WYSINWYX: What You See Is Not What You eXecute", 2010: value sets of memory).
use Rattle.std.specs.Prelude.{Option, None}
use Rattle.entry_value.specs.declared.cells.Cell.{Cell}
use Rattle.entry_value.specs.Cells.{CellMap, kept, telling}

-- a cell keeps its set and loses its relation
abbrev pub plain_cell : Cell → Cell
plain_cell cell = record { place = cell.place; size = cell.size; word = record { set = cell.word.set; entry = None } }

-- one that then says nothing goes
abbrev pub unrelated : Cell → Option Cell
unrelated cell = telling (plain_cell cell)

abbrev pub without_relations : CellMap → CellMap
without_relations map = record { lo = map.lo; hi = map.hi; cells = kept unrelated map.cells }
