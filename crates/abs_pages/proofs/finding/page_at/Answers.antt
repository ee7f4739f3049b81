use Rattle.std.proofs.Common.{◌≡◌, ◌<◌, ◌∙◌, ap, get_or, length, subst}
use Rattle.abs_pages.specs.Paging.{Paged, pages_below}
use Rattle.abs_pages.proofs.Flat.{cells_found}
use Rattle.abs_pages.proofs.finding.page_at.Goals as goal

pub returns-in-Ok : goal.returns-in-Ok
returns-in-Ok c =
    let pages = c.args.pages.now in
    let number = c.args.number in
    let page = c.index-pages-index.result in
    let value = c.in-Ok.ensures.value in
    let found = c.in-Ok.ensures.found in
    let is : page ≡ get_or pages (pages_below pages number) page = subst (λ index. page ≡ get_or pages index page) value c.index-pages-index.is in
    let numbered : (get_or pages (pages_below pages number) page).number ≡ number = subst (λ index. (get_or pages index page).number ≡ number) value (found.1 page) in (
      ap (λ (p : Paged). p.number) is ∙ numbered,
      ap (λ (p : Paged). p.map.cells) is ∙ cells_found pages number page (subst (λ index. index < length pages) value found.0) numbered,
    )
