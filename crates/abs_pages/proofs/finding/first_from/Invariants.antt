use Rattle.std.proofs.Common.{◌≡◌, drop}
use Rattle.entry_value.specs.Cells.{next}
use Rattle.abs_pages.specs.Paging.{flat}
use Rattle.abs_pages.proofs.finding.first_from.Given as goal

abbrev pub invariant-loop-page : goal.invariant-loop-page
invariant-loop-page l = next (flat (drop l.page-index l.pages)) l.from ≡ next (flat l.pages) l.from
