use Rattle.std.proofs.Common.{◌≡◌, ◌∙◌, ap, sym, []}
use Rattle.entry_value.specs.Cells.{are_within}
use Rattle.abs_pages.specs.Paging.{cells_at}
use Rattle.abs_pages.proofs.Lists.{within_none}
use Rattle.abs_pages.proofs.Flat.{cells_none, within_looked}
use Rattle.abs_pages.proofs.joining.is_within.Goals as goal

pub returns-in-Some : goal.returns-in-Some
returns-in-Some c =
    let new = c.args.new.now in
    let held = c.args.held.now in
    let cells : c.in-Some.page.now.map.cells ≡ cells_at new held.number = c.in-Some.ensures.1 ∙ ap (cells_at new) c.number.ensures in
    let value : c.within.result ≡ are_within c.in-Some.page.now.map.cells held.map.cells = rw (c.cells.ensures, c.cells-in-Some.ensures) at c.within.ensures.value in
    value ∙ (ap (λ found. are_within found held.map.cells) cells
    ∙ sym (within_looked new held.number held.map.cells c.requires.rise c.requires.each c.requires.page.inside))

pub returns-in-None : goal.returns-in-None
returns-in-None c =
    let new = c.args.new.now in
    let held = c.args.held.now in
    let none : cells_at new held.number ≡ [] = ap (cells_at new) (sym c.number.ensures) ∙ cells_none new c.number.result c.in-None.ensures in
    sym (within_looked new held.number held.map.cells c.requires.rise c.requires.each c.requires.page.inside
    ∙ (ap (λ found. are_within found held.map.cells) none ∙ within_none held.map.cells c.requires.page.some))
