use Rattle.std.proofs.Common.{◌≡◌, ◌∙◌, sym}
use Rattle.entry_value.specs.Cells.{are_within}
use Rattle.entry_value.specs.Representing.{stands_within}
use Rattle.abs_pages.specs.Paging.{flat}
use Rattle.abs_pages.proofs.Seen.{map_of}
use Rattle.abs_pages.proofs.pages.CellPagesCells.within.Goals as goal

pub returns-clause-holds : goal.returns-clause-holds
returns-clause-holds c = λ yes_within.
    let new = c.self.inside in
    let held = c.other.inside in
    let value : c.are_within.result ≡ are_within (flat new.pages.items) (flat held.pages.items) = rw (c.deref.ensures.value, c.deref-2.ensures.value) at c.are_within.ensures in
    stands_within c.cell_laws.ensures (map_of new.lo new.hi new.pages.items) c.args.self.now (map_of held.lo held.hi held.pages.items) c.args.other.now
    c.self.view_is c.other.view_is (sym value ∙ yes_within)
