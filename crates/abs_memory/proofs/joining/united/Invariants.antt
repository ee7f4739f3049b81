use Rattle.std.proofs.Common.{◌≡◌, ◌++◌, drop}
use Rattle.entry_value.specs.Cells.{kept}
use Rattle.abs_memory.specs.Joining.{made_with}
use Rattle.abs_memory.specs.Finding.{Ascend}
use Rattle.abs_memory.proofs.Passes.{Follows}
use Rattle.abs_memory.proofs.joining.united.Given as goal

abbrev pub invariant-loop-cell : goal.invariant-loop-cell
invariant-loop-cell g l =
    record {
      ascend : Ascend 0 l.others;
      follows : Follows l.new l.others (drop l.cell-index l.held);
      passed : l.all.items ++ kept (made_with (g.M.Making.made l.making) l.new) (drop l.cell-index l.held) ≡ kept (made_with (g.M.Making.made l.making) l.new) l.held;
    }
