use Rattle.std.proofs.Common.{◌≡◌, ◌∙◌, ap, sym, subst, [], List}
use Rattle.std.specs.Prelude.{IfOk}
use Rattle.entry_value.specs.declared.cells.Cell.{Cell}
use Rattle.entry_value.specs.Words.{word_join}
use Rattle.entry_value.specs.Cells.{join_cells, kept, with_both}
use Rattle.abs_pages.specs.Paging.{MadeOf, cells_at, flat}
use Rattle.abs_pages.proofs.Flat.{cells_none, join_looked, join_none}
use Rattle.abs_pages.proofs.joining.JoiningPass.pass.Goals as goal

pub returns-in-Some : goal.returns-in-Some
returns-in-Some c =
    let others = c.args.self.now.others.now in
    let page = c.args.page.now in
    let cells : c.in-Some.other.now.map.cells ≡ cells_at others page.number = c.in-Some.ensures.1 ∙ ap (cells_at others) c.number.ensures in
    let same : join_cells page.map.cells c.in-Some.other.now.map.cells ≡ kept (with_both word_join (flat others)) page.map.cells =
    ap (join_cells page.map.cells) cells ∙ join_looked others page.number page.map.cells c.requires.able.0 c.requires.able.1 c.requires.page.inside in
    subst (λ (made : List Cell). IfOk c.join.result (MadeOf page made)) same c.join.ensures

pub returns-in-None : goal.returns-in-None
returns-in-None c =
    let others = c.args.self.now.others.now in
    let page = c.args.page.now in
    let none : cells_at others page.number ≡ [] = ap (cells_at others) (sym c.number.ensures) ∙ cells_none others c.number.result c.in-None.ensures in
    sym (join_looked others page.number page.map.cells c.requires.able.0 c.requires.able.1 c.requires.page.inside) ∙ (ap (join_cells page.map.cells) none ∙ join_none page.map.cells)
