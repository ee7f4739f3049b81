use Rattle.std.proofs.Common.{◌-◌}
use Rattle.irq_frames.proofs.Rewritten.{IsWalked}
use Rattle.irq_frames.proofs.rewriting.rewritten.Given as goal

abbrev pub invariant-loop-cell : goal.invariant-loop-cell
invariant-loop-cell g l = IsWalked (g.R.Rewrites.made l.rewrites) l.from (g.M.Cells.map l.cells) (g.M.Cells.map l.all)

abbrev pub decreases-loop-cell : goal.decreases-loop-cell
decreases-loop-cell g l = 65536 - l.from
