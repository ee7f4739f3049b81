use Rattle.std.proofs.Common.{◌≡◌, ◌≤◌, ◌++◌, length, take, drop}
use Rattle.entry_value.specs.Cells.{kept, cell_behind}
use Rattle.abs_memory.specs.Finding.{EachEndsBelow}
use Rattle.abs_memory.proofs.writing.write_several.Given as goal

abbrev pub invariant-loop-index : goal.invariant-loop-index
invariant-loop-index l =
    record {
      count : l.count ≤ l.index;
      length : length l.cells.items ≡ l.index-end;
      ends : EachEndsBelow 65536 (drop l.index l.cells.items);
      passed : take l.count l.cells.items ++ kept (cell_behind l.at l.size l.word) (drop l.index l.cells.items) ≡ kept (cell_behind l.at l.size l.word) l.fn.cells.items;
    }
