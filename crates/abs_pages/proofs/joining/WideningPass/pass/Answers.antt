use Rattle.std.proofs.Common.{◌≡◌, ◌∙◌, ap, sym, subst, [], List}
use Rattle.std.specs.Prelude.{IfOk}
use Rattle.entry_value.specs.declared.cells.Cell.{Cell}
use Rattle.entry_value.specs.Cells.{widen_cells, kept, cell_widened}
use Rattle.abs_pages.specs.Paging.{MadeOf, cells_at, flat}
use Rattle.abs_pages.proofs.Flat.{cells_none, widen_looked, widen_none}
use Rattle.abs_pages.proofs.joining.WideningPass.pass.Goals as goal

pub returns-in-Some : goal.returns-in-Some
returns-in-Some c =
    let others = c.args.self.now.others.now in
    let marks = c.args.self.now.marks.now in
    let page = c.args.page.now in
    let cells : c.in-Some.other.now.map.cells ≡ cells_at others page.number = c.in-Some.ensures.1 ∙ ap (cells_at others) c.number.ensures in
    let same : widen_cells page.map.cells c.in-Some.other.now.map.cells marks ≡ kept (cell_widened marks (flat others)) page.map.cells =
    ap (λ found. widen_cells page.map.cells found marks) cells ∙ widen_looked others page.number page.map.cells marks c.requires.able.0 c.requires.able.1 c.requires.page.inside in
    subst (λ (made : List Cell). IfOk c.widen.result (MadeOf page made)) same c.widen.ensures

pub returns-in-None : goal.returns-in-None
returns-in-None c =
    let others = c.args.self.now.others.now in
    let marks = c.args.self.now.marks.now in
    let page = c.args.page.now in
    let none : cells_at others page.number ≡ [] = ap (cells_at others) (sym c.number.ensures) ∙ cells_none others c.number.result c.in-None.ensures in
    sym (widen_looked others page.number page.map.cells marks c.requires.able.0 c.requires.able.1 c.requires.page.inside)
    ∙ (ap (λ found. widen_cells page.map.cells found marks) none ∙ widen_none page.map.cells marks)
