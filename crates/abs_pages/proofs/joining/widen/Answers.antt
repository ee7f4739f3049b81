use Rattle.std.proofs.Common.{◌≡◌, ◌∙◌, ap, sym, List}
use Rattle.entry_value.specs.declared.cells.Cell.{Cell}
use Rattle.entry_value.specs.Cells.{AreCells, widen_cells}
use Rattle.abs_pages.specs.Paging.{Paged}
use Rattle.abs_pages.proofs.Sharing.{widen_shared}
use Rattle.abs_pages.proofs.joining.widen.Goals as goal

pub returns-in-Some : goal.returns-in-Some
returns-in-Some c =
    let held = c.args.held.now in
    let found = rw c.in-Some.is at c.in_ok-page.ensures in
    let are : AreCells held.map.lo held.map.hi held.map.lo held.map.cells = rw c.cells.ensures at c.keep_form.ensures.are in
    let shared : widen_cells held.map.cells c.args.new.now.map.cells c.args.marks.now ≡ held.map.cells =
    widen_shared held.map.lo held.map.hi held.map.lo held.map.cells c.args.new.now.map.cells c.args.marks.now are found.0 in
    let made : List Cell → Paged = λ cells. record { number = held.number; map = record { lo = held.map.lo; hi = held.map.hi; cells = cells } } in
    (found.1 ∙ ap made (sym shared), λ none. c.requires.some (sym shared ∙ none))
