use Rattle.std.proofs.Common.{◌/◌, ◌∙◌, ap, refl, sym}
use Rattle.abs_pages.specs.Paging.{begun_at}
use Rattle.abs_pages.proofs.Flat.{begun_looked, cells_none}
use Rattle.abs_pages.proofs.reading.begun_at.Goals as goal

pub returns-in-Some : goal.returns-in-Some
returns-in-Some c =
    let at = c.args.at in
    c.begun_at.ensures ∙ (ap (λ cells. begun_at cells at) c.in-Some.ensures.1
    ∙ sym (begun_looked 0 c.args.pages.now at (at / 32) c.requires.rise c.requires.each refl))

pub returns-in-None : goal.returns-in-None
returns-in-None c =
    let pages = c.args.pages.now in
    let at = c.args.at in
    sym (begun_looked 0 pages at (at / 32) c.requires.rise c.requires.each refl ∙ ap (λ cells. begun_at cells at) (cells_none pages (at / 32) c.in-None.ensures))
