use Rattle.std.proofs.Common.{sym, ap, ◌∙◌}
use Rattle.std.specs.Prelude.{is_some}
use Rattle.cert_pages.specs.Pages.{cut_by}
use Rattle.cert_pages.proofs.BlockLemmas.{ascend_in, cut_first, next_cell, no_cell, one_cell}
use Rattle.cert_pages.proofs.blocks.+ascend_in.Goals as goal

pub returns-in-Some-next_place : goal.returns-in-Some-next_place
returns-in-Some-next_place t c =
    let a = c.args in
    let cells = cut_by 59 c.in-Some.rest.now in
    c.ascend_in.ensures ∙ sym (next_cell a.digits a.from a.block c.in-Some.cell.now cells c.in-Some-next_place.place c.in-Some-next_place.ensures)
    ∙ ap (ascend_in a.digits a.from a.block) (sym (cut_first 59 a.text.now c.in-Some.cell.now c.in-Some.rest.now c.in-Some.ensures.parts))

pub returns-in-None-next_place : goal.returns-in-None-next_place
returns-in-None-next_place t c =
    let a = c.args in
    let cells = cut_by 59 c.in-Some.rest.now in
    sym (no_cell a.digits a.from a.block c.in-Some.cell.now cells c.in-None-next_place.ensures)
    ∙ ap (ascend_in a.digits a.from a.block) (sym (cut_first 59 a.text.now c.in-Some.cell.now c.in-Some.rest.now c.in-Some.ensures.parts))

pub returns-in-None : goal.returns-in-None
returns-in-None t c =
    let a = c.args in
    c.is_some.ensures ∙ ap is_some c.next_place-in-None.ensures ∙ one_cell a.digits a.from a.block a.text.now c.in-None.ensures.parts
