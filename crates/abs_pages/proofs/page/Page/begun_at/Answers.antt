use Rattle.std.proofs.Common.{◌≡◌, None, Some, refl}
use Rattle.std.proofs.lemmas.Bool.{eq-eqb, ne_eqb}
use Rattle.entry_value.specs.Cells.{AreCells}
use Rattle.abs_pages.proofs.Begun.{begun_is, begun_shown}
use Rattle.abs_pages.proofs.page.Page.begun_at.Goals as goal

pub returns-then-place-at : goal.returns-then-place-at
returns-then-place-at c =
    let map = c.args.self.now.map in
    let are : AreCells map.lo map.hi map.lo map.cells = rw c.cells-cells.ensures at c.keep_form.ensures.are in
    let shown_as : begun_shown c.next.result c.args.at ≡ Some (c.in-Some.size, c.in-Some.word) = rw (c.in-Some.is, eq-eqb c.in-Some.place c.args.at c.if-place-at.true) refl in
    begun_is map.lo map.hi map.lo map.cells c.args.at c.next.result _ are (rw c.cells-cells.ensures at c.next.ensures) shown_as

pub returns-else-place-at : goal.returns-else-place-at
returns-else-place-at c =
    let map = c.args.self.now.map in
    let are : AreCells map.lo map.hi map.lo map.cells = rw c.cells-cells.ensures at c.keep_form.ensures.are in
    let shown_as : begun_shown c.next.result c.args.at ≡ None = rw (c.in-Some.is, ne_eqb c.in-Some.place c.args.at c.if-place-at.false) refl in
    begun_is map.lo map.hi map.lo map.cells c.args.at c.next.result _ are (rw c.cells-cells.ensures at c.next.ensures) shown_as

pub returns-in-None : goal.returns-in-None
returns-in-None c =
    let map = c.args.self.now.map in
    let are : AreCells map.lo map.hi map.lo map.cells = rw c.cells-cells.ensures at c.keep_form.ensures.are in
    let shown_as : begun_shown c.next.result c.args.at ≡ None = rw c.in-None.is refl in
    begun_is map.lo map.hi map.lo map.cells c.args.at c.next.result _ are (rw c.cells-cells.ensures at c.next.ensures) shown_as
