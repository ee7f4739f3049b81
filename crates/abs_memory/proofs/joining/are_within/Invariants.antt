use Rattle.std.proofs.Common.{◌≡◌, drop}
use Rattle.entry_value.specs.Cells.{are_within}
use Rattle.abs_memory.specs.Finding.{Ascend}
use Rattle.abs_memory.proofs.Passes.{Follows}
use Rattle.abs_memory.proofs.joining.are_within.Given as goal

abbrev pub invariant-loop-cell : goal.invariant-loop-cell
invariant-loop-cell l =
    record {
      ascend : Ascend 0 l.others;
      follows : Follows l.new l.others (drop l.cell-index l.held);
      passed : are_within l.new (drop l.cell-index l.held) ≡ are_within l.new l.held;
    }
