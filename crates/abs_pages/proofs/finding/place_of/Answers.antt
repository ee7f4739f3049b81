use Rattle.std.proofs.Common.{◌≡◌, ◌∙◌, ap, get_or, subst, arith}
use Rattle.abs_pages.specs.Paging.{Paged, pages_below}
use Rattle.abs_pages.proofs.Flat.{none_at_end, none_beside}
use Rattle.abs_pages.proofs.finding.place_of.Goals as goal
use Rattle.abs_pages.proofs.finding.place_of.Goals.{else-below-pages-via-then-below-pages+else-number, else-below-pages-via-else-below-pages}

pub returns-else-below-pages-clause-found : goal.returns-else-below-pages-clause-found
returns-else-below-pages-clause-found c =
    let pages = c.args.pages.now in
    let number = c.args.number in
    let value = c.pages_below-below.ensures.value in (
      c.pages_below-below.ensures.bound,
      elim c.else-below-pages.branch [
        | else-below-pages-via-then-below-pages+else-number w ↦
            let page = w.index-pages-below.result in
            let is : page ≡ get_or pages (pages_below pages number) page = subst (λ below. page ≡ get_or pages below page) value w.index-pages-below.is in
            none_beside 0 pages number page c.requires (omega (arith, value, w.if-below-pages.true))
            (λ same. w.if-number.false (w.number.ensures ∙ (ap (λ (p : Paged). p.number) is ∙ same)))
        | else-below-pages-via-else-below-pages w ↦ none_at_end 0 pages number c.requires (omega (arith, value, w.if-below-pages.false))
      ],
    )
