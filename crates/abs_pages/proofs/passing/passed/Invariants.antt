use Rattle.abs_pages.proofs.Passes.{Passed}
use Rattle.abs_pages.proofs.passing.passed.Given as goal

abbrev pub invariant-loop-page : goal.invariant-loop-page
invariant-loop-page g l = Passed (g.P.Pass.applied l.pass) l.fn.bounds.0 l.fn.bounds.1 l.pages l.page-index l.all.items
