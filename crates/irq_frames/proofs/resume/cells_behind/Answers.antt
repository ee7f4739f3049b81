use Rattle.std.proofs.Common.{List, map, ap, ◌∙◌}
use Rattle.entry_value.specs.declared.cells.Cell.{Cell as ACell}
use Rattle.entry_value.specs.Cells.{CellMap}
use Rattle.irq_frames.specs.Resuming.{cells_behind, going_on, is_untouched, touched_cells, with_written}
use Rattle.irq_frames.proofs.Rewritten.{kept_filter}
use Rattle.irq_frames.proofs.resume.cells_behind.Goals as goal

pub returns : goal.returns
unfolding cells_behind
returns g c =
    let words = g.R.Resumes.words c.args.resumes.now in
    let at = g.M.Cells.map c.args.at.now in
    let exit = g.M.Cells.map c.args.exit.now in
    let touched = c.args.touched.now in
    let untouched = kept_filter (λ (cell : ACell). is_untouched touched cell.place cell.size) at.cells in
    c.in_ok-write_touched.ensures
    ∙ ap (λ (held : CellMap). with_written (map (going_on words) (touched_cells touched exit.cells)) held)
    (c.in_ok-cells.ensures ∙ ap (λ (cells : List ACell). record at { cells = cells }) untouched)
