use Rattle.std.proofs.Common.{sym, ◌∙◌}
use Rattle.entry_value.specs.Cells as the_cells
use Rattle.entry_value.specs.CellWalks.{found, next_is}
use Rattle.irq_frames.proofs.Rewritten.{anywhere}
use Rattle.irq_frames.proofs.rewriting.next_cell.Goals as goal

pub returns-in-Some-clause-form : goal.returns-in-Some-clause-form
returns-in-Some-clause-form g c cell same =
    let held = g.M.Cells.map c.args.cells.now in
    let some = found c.in-Some.place c.in-Some.size c.in-Some.word (the_cells.next held.cells c.args.from) (sym c.in-Some.is ∙ c.next.ensures) ∙ same in
    anywhere held.lo held.hi cell c.keep_form.ensures.high (next_is held.lo held.hi held.lo c.args.from held.cells cell c.keep_form.ensures.are some).form

pub returns-in-Some-clause-from : goal.returns-in-Some-clause-from
returns-in-Some-clause-from g c cell same =
    let held = g.M.Cells.map c.args.cells.now in
    let some = found c.in-Some.place c.in-Some.size c.in-Some.word (the_cells.next held.cells c.args.from) (sym c.in-Some.is ∙ c.next.ensures) ∙ same in
    (next_is held.lo held.hi held.lo c.args.from held.cells cell c.keep_form.ensures.are some).behind
