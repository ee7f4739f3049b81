use Rattle.std.proofs.Common.{◌≡◌, ◌-◌}
use Rattle.entry_value.specs.CellWalks.{behind}
use Rattle.irq_frames.proofs.Walking.{writes_behind}
use Rattle.irq_frames.proofs.resume.write_touched.Given as goal

abbrev pub invariant-loop-cell : goal.invariant-loop-cell
invariant-loop-cell g l = record {
  written : writes_behind (g.R.Resumes.words l.resumes) l.touched (behind l.from (g.M.Cells.map l.exit).cells) (g.M.Cells.map l.cells)
      ≡ writes_behind (g.R.Resumes.words l.resumes) l.touched (g.M.Cells.map l.exit).cells (g.M.Cells.map l.initial.cells);
}

abbrev pub decreases-loop-cell : goal.decreases-loop-cell
decreases-loop-cell g l = 65536 - l.from
