use Rattle.std.proofs.Common.{◌≡◌, ◌/◌, ◌∙◌, refl, sym, [], arith}
use Rattle.abs_pages.specs.Paging.{cells_at}
use Rattle.abs_pages.proofs.Flat.{cells_none}
use Rattle.abs_pages.proofs.Inside.{AreSeen, read_none, read_seen}
use Rattle.abs_pages.proofs.reading.read_inside.Goals as goal

pub returns-in-Some : goal.returns-in-Some
returns-in-Some c =
    let pages = c.args.pages.now in
    let at = c.args.at in
    let size = c.args.size in
    let page = c.in-Some.page.now in
    let seen : AreSeen pages (at / 32) page.map.cells = record {
      read = c.requires.read;
      low = page.map.lo;
      high = page.map.hi;
      first = page.map.lo;
      own = c.read.ensures.are;
      is = c.in-Some.ensures.1;
    } in
    c.read.ensures.value ∙ sym (read_seen pages (at / 32) page.map.cells at size seen (omega arith) refl c.requires.size c.requires.inside)

pub returns-in-None : goal.returns-in-None
returns-in-None c =
    let pages = c.args.pages.now in
    let at = c.args.at in
    let size = c.args.size in
    let none : [] ≡ cells_at pages (at / 32) = sym (cells_none pages (at / 32) c.in-None.ensures) in
    let seen : AreSeen pages (at / 32) [] = record {
      read = c.requires.read;
      low = 0;
      high = 0;
      first = 0;
      own = tt;
      is = none;
    } in
    c.unknown.ensures.value ∙ (sym (read_none at size c.requires.size) ∙ sym (read_seen pages (at / 32) [] at size seen (omega arith) refl c.requires.size c.requires.inside))
