use Rattle.std.proofs.Common.{◌≡◌, drop}
use Rattle.entry_value.specs.Cells.{are_within}
use Rattle.abs_pages.specs.Paging.{flat}
use Rattle.abs_pages.proofs.joining.are_within.Given as goal

abbrev pub invariant-loop-page : goal.invariant-loop-page
invariant-loop-page l = are_within (flat l.new) (flat (drop l.page-index l.held)) ≡ are_within (flat l.new) (flat l.held)
