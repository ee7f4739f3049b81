use Rattle.std.proofs.Common.{◌≡◌, take}
use Rattle.abs_pages.proofs.writing.shared.Given as goal

abbrev pub invariant-loop-page : goal.invariant-loop-page
invariant-loop-page l = l.all.items ≡ take l.page-index l.pages
