use Rattle.std.proofs.Common.{◌≡◌, take, drop}
use Rattle.round_core.specs.Ahead.{AreBefore}
use Rattle.book_rules.specs.Machine.{all_raised}
use Rattle.round_core.specs.Raise.{held_rows, with_all, RisesOver}
use Rattle.round_core.proofs.raise.all_raised.Given as goal

abbrev pub invariant-loop-node : goal.invariant-loop-node
invariant-loop-node g l = record {
  over : RisesOver l.nodes.rows l.all;
  raised : with_all l.nodes.rows (held_rows l.all.rows.items) ≡ all_raised (g.C.Chip.analysis (g.C.Chip.base l.chip)) l.nodes.rows (take l.node-index l.posts);
  before : AreBefore (g.C.Chip.analysis (g.C.Chip.base l.chip)) l.nodes.rows (drop l.node-index l.posts) l.ahead;
}
