use Rattle.std.proofs.Common.{◌≡◌, ◌+◌, ◌++◌, ◌∙◌, true, false, ap, sym, drop, rules}
use Rattle.std.specs.Option.{is_some, option_map}
use Rattle.entry_value.specs.Cells.{next}
use Rattle.abs_pages.specs.Paging.{flat}
use Rattle.abs_pages.proofs.Lists.{next_found, next_not_found, shown}
use Rattle.abs_pages.proofs.Passes.{flat_here}
use Rattle.abs_pages.proofs.finding.first_from.Goals as goal
use Rattle.abs_pages.proofs.finding.first_from.Goals.{After-next-found}

-- what was found is the next cell of the page, and the cells so far have none
found : (c : After-next-found) → c.next-found.result ≡ option_map shown (next c.page-item.result.map.cells c.args.from)
found c = rw c.cells.ensures at c.next-found.ensures

behind : (c : After-next-found) → let page = c.page-item.result in
    next (page.map.cells ++ flat (drop (c.loop-page.page-index + 1) c.args.pages.now)) c.args.from ≡ next (flat c.args.pages.now) c.args.from
behind c = ap (λ cells. next cells c.args.from) (sym (flat_here c.args.pages.now c.loop-page.page-index c.page-item.result c.loop-page-test.true c.page-item.is))
    ∙ c.loop-page.invariant

pub returns-then-is_some : goal.returns-then-is_some
returns-then-is_some c =
    let here = (goal.at.returns-then-is_some c).After-next-found in
    let some : is_some c.next-found.result ≡ true = search rules in
    next_found c.page-item.result.map.cells _ c.args.from c.next-found.result (found here) some ∙ ap (option_map shown) (behind here)

pub loop-page-preserved : goal.loop-page-preserved
loop-page-preserved c =
    let here = (goal.at.loop-page-preserved c).After-next-found in
    let none : is_some c.next-found.result ≡ false = search rules in
    sym (next_not_found c.page-item.result.map.cells _ c.args.from c.next-found.result (found here) none) ∙ behind here
