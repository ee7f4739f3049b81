use Rattle.std.proofs.Common.{◌<◌, ◌∙◌, length, sym, true, false}
use Rattle.abs_pages.specs.Paging.{flat}
use Rattle.abs_pages.proofs.Passes.{within_here}
use Rattle.abs_pages.proofs.joining.are_within.Goals as goal

pub returns-then-not-is_within : goal.returns-then-not-is_within
returns-then-not-is_within c =
    let held = c.args.held.now in
    let lt : c.loop-page.page-index < length held = c.loop-page-test.true in
    sym (within_here (flat c.args.new.now) held c.loop-page.page-index c.page-item.result false lt c.page-item.is (sym c.is_within.ensures ∙ c.if-not-is_within.true))
    ∙ c.loop-page.invariant

pub loop-page-preserved : goal.loop-page-preserved
loop-page-preserved c =
    let held = c.args.held.now in
    let lt : c.loop-page.page-index < length held = c.loop-page-test.true in
    sym (within_here (flat c.args.new.now) held c.loop-page.page-index c.page-item.result true lt c.page-item.is (sym c.is_within.ensures ∙ c.if-not-is_within.false))
    ∙ c.loop-page.invariant
