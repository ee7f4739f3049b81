use Rattle.std.proofs.Common.{◌≡◌, length}
use Rattle.round_core.specs.Ahead.{AreLooked}
use Rattle.round_core.proofs.ahead.looked_over.Given as goal

abbrev pub invariant-loop-node : goal.invariant-loop-node
invariant-loop-node g l = record {
  len : length l.rows.items ≡ l.node-index;
  looked : AreLooked (g.C.Chip.analysis (g.C.Chip.base l.chip)) l.met l.posts l.rows.items;
}
