use Rattle.std.proofs.Common.{◌≡◌, None, Some, refl}
use Rattle.std.proofs.lemmas.Bool.{eq-eqb, ne_eqb}
use Rattle.abs_pages.specs.Paging.{flat}
use Rattle.abs_pages.proofs.Begun.{cell_is, sized}
use Rattle.abs_pages.proofs.reading.cell_at.Goals as goal

pub returns-then-found-size : goal.returns-then-found-size
returns-then-found-size c =
    let found : sized c.begun_at.result c.args.size ≡ Some c.in-Some.word = rw (c.in-Some.is, eq-eqb c.in-Some.found c.args.size c.if-found-size.true) refl in
    cell_is c.requires.lo c.requires.hi c.requires.lo (flat c.args.pages.now) c.args.at c.args.size c.begun_at.result _ c.requires.are c.begun_at.ensures found

pub returns-else-found-size : goal.returns-else-found-size
returns-else-found-size c =
    let found : sized c.begun_at.result c.args.size ≡ None = rw (c.in-Some.is, ne_eqb c.in-Some.found c.args.size c.if-found-size.false) refl in
    cell_is c.requires.lo c.requires.hi c.requires.lo (flat c.args.pages.now) c.args.at c.args.size c.begun_at.result _ c.requires.are c.begun_at.ensures found

pub returns-in-None : goal.returns-in-None
returns-in-None c =
    let found : sized c.begun_at.result c.args.size ≡ None = rw c.in-None.is refl in
    cell_is c.requires.lo c.requires.hi c.requires.lo (flat c.args.pages.now) c.args.at c.args.size c.begun_at.result _ c.requires.are c.begun_at.ensures found
