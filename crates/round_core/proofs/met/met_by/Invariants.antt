use Rattle.std.specs.List.{AllByRecursion}
use Rattle.round_core.specs.Ahead.{IsMet}
use Rattle.round_core.proofs.met.met_by.Given as goal

abbrev pub invariant-loop-node : goal.invariant-loop-node
invariant-loop-node g l = AllByRecursion (IsMet l.nodes.rows) l.rows.items
