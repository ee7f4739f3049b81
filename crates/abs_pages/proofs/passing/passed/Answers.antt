use Rattle.std.proofs.Common.{◌≡◌, ◌+◌, ◌<◌, ◌++◌, ◌∷◌, [], length, ap, ◌∙◌, sym, subst, Some, None}
use Rattle.entry_value.specs.Cells.{kept}
use Rattle.abs_pages.specs.Paging.{HasBounds, IsPage, MadeOf}
use Rattle.abs_pages.proofs.Flat.{each_page_at}
use Rattle.abs_pages.proofs.Passes.{Passed, pass_begins, pass_on, pass_over, pass_ends}
use Rattle.abs_pages.proofs.passing.passed.Goals as goal
use Rattle.abs_pages.proofs.passing.passed.Goals.{in-Some+in_ok-push-in-Some, in-None}

pub loop-page-init : goal.loop-page-init
loop-page-init g c = subst (Passed (g.P.Pass.applied c.args.pass.now) c.args.bounds.0 c.args.bounds.1 c.args.pages.now 0) (sym c.new-all.ensures.items)
    (pass_begins (g.P.Pass.applied c.args.pass.now) c.args.bounds.0 c.args.bounds.1 c.args.pages.now c.requires.pages)

pub loop-page-preserved : goal.loop-page-preserved
loop-page-preserved g c =
    let f = g.P.Pass.applied c.args.pass.now in
    let lo = c.args.bounds.0 in
    let hi = c.args.bounds.1 in
    let pages = c.args.pages.now in
    let page = c.page-item.result in
    let i = c.loop-page.page-index in
    let all = c.loop-page.all.items in
    let lt : i < length pages = c.loop-page-test.true in
    let form : IsPage page = subst IsPage (sym c.page-item.is) (each_page_at IsPage pages i page c.requires.pages.each lt) in
    let bounds : HasBounds lo hi page = subst (HasBounds lo hi) (sym c.page-item.is) (each_page_at (HasBounds lo hi) pages i page c.requires.pages.bounds lt) in
    elim c.match-branch-2.branch [
      | in-Some+in_ok-push-in-Some w ↦
          let items : c.match-branch-2.all.items ≡ all ++ w.in-Some.made ∷ [] = ap (λ v. v.items) w.all-is ∙ w.in_ok-push-in-Some.ensures.items in
          let made : MadeOf page (kept f page.map.cells) (Some w.in-Some.made) = subst (MadeOf page (kept f page.map.cells)) w.in-Some.is c.in_ok-made.ensures in
          subst (Passed f lo hi pages (i + 1)) (sym items) (pass_on f lo hi pages i all page w.in-Some.made lt c.page-item.is c.requires.places form bounds made c.loop-page.invariant)
      | in-None w ↦
          let items : c.match-branch-2.all.items ≡ all = ap (λ v. v.items) w.all-is in
          let none : MadeOf page (kept f page.map.cells) None = subst (MadeOf page (kept f page.map.cells)) w.in-None.is c.in_ok-made.ensures in
          subst (Passed f lo hi pages (i + 1)) (sym items) (pass_over f lo hi pages i all page lt c.page-item.is none c.loop-page.invariant)
    ]

pub returns-clause-pages : goal.returns-clause-pages
returns-clause-pages g c = c.loop-page.invariant.made

pub returns-clause-value : goal.returns-clause-value
returns-clause-value g c =
    pass_ends (g.P.Pass.applied c.args.pass.now) c.args.bounds.0 c.args.bounds.1 c.args.pages.now c.loop-page.page-index c.loop-page.all.items c.loop-page-test.false c.loop-page.invariant
