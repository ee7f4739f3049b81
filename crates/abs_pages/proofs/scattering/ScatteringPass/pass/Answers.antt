use Rattle.std.proofs.Common.{◌≡◌, ◌∙◌, ap, sym, subst, ◌<◌, List}
use Rattle.std.specs.Prelude.{IfOk}
use Rattle.entry_value.specs.declared.cells.Cell.{Cell}
use Rattle.entry_value.specs.Cells.{AreCells, CellMap, cell_behind, kept, write_any, write_several}
use Rattle.abs_pages.specs.Paging.{MadeOf, Paged}
use Rattle.abs_pages.proofs.Scattered.{IsFar, page_stays}
use Rattle.abs_pages.proofs.scattering.ScatteringPass.pass.Goals as goal

pub returns-then-not-reaches : goal.returns-then-not-reaches
returns-then-not-reaches c =
    let scattering = c.args.self.now in
    let page = c.args.page.now in
    let far : IsFar scattering.at.now page.number = rw c.number.ensures at (c.reaches.ensures c.if-not-reaches.true) in
    let high : page.map.hi < 65536 = rw c.cells.ensures at c.keep_form.ensures.high in
    let are : AreCells page.map.lo page.map.hi page.map.lo page.map.cells = rw c.cells.ensures at c.keep_form.ensures.are in
    let stays : kept (cell_behind scattering.at.now scattering.size scattering.word) page.map.cells ≡ page.map.cells =
    page_stays c.set_laws.ensures scattering.at.now scattering.size page.number scattering.word page.map.lo page.map.hi page.map.lo page.map.cells far high are c.requires.page.inside in
    let made : List Cell → Paged = λ cells. record { number = page.number; map = record { lo = page.map.lo; hi = page.map.hi; cells = cells } } in
    (c.in_ok-share.ensures ∙ ap made (sym stays), λ none. c.requires.page.some (sym stays ∙ none))

pub returns : goal.returns
unfolding write_several
returns c =
    let scattering = c.args.self.now in
    let page = c.args.page.now in
    let f = cell_behind scattering.at.now scattering.size scattering.word in
    let copied : c.in_ok-cells.cells ≡ page.map = c.in_ok-cells.ensures ∙ c.cells-2.ensures in
    let written : c.write_any.new.self ≡ write_several page.map scattering.at.now scattering.size scattering.word =
    c.in_ok-write_any.ensures.value ∙ (ap (λ (map : CellMap). write_any map scattering.at.now scattering.size scattering.word) copied
    ∙ c.cell_laws.ensures.store_several page.map scattering.at.now scattering.size scattering.word c.requires.able.0) in
    let made : (map : CellMap) → map ≡ write_several page.map scattering.at.now scattering.size scattering.word
    → IfOk c.made.result (MadeOf (record { number = page.number; map = map }) map.cells) → IfOk c.made.result (MadeOf page (kept f page.map.cells)) =
    λ map is. subst (λ (one : CellMap). IfOk c.made.result (MadeOf (record { number = page.number; map = one }) one.cells) → IfOk c.made.result (MadeOf page (kept f page.map.cells))) (sym is) (λ h. h) in
    made c.write_any.new.self written (rw c.number-2.ensures at c.made.ensures)
