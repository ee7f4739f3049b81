use Rattle.std.proofs.Common.{◌≡◌, ◌∙◌, sym}
use Rattle.entry_value.specs.Cells.{are_within}
use Rattle.entry_value.specs.Representing.{stands_within}
use Rattle.abs_memory.proofs.Seen.{map_of}
use Rattle.abs_memory.proofs.Lists.{list_ascends}
use Rattle.abs_memory.proofs.list.CellListCells.within.Goals as goal

pub are_within-requires-clause-new : goal.are_within-requires-clause-new
are_within-requires-clause-new c = rw c.deref.ensures.value (list_ascends c.self.inside.lo c.self.inside.hi c.self.inside.lo c.self.inside.cells.items c.self.invariant.are)

pub are_within-requires-clause-held : goal.are_within-requires-clause-held
are_within-requires-clause-held c = rw c.deref-2.ensures.value (list_ascends c.other.inside.lo c.other.inside.hi c.other.inside.lo c.other.inside.cells.items c.other.invariant.are)

pub returns-clause-holds : goal.returns-clause-holds
returns-clause-holds c = λ yes_within.
    let new = c.self.inside in
    let held = c.other.inside in
    let value : c.are_within.result ≡ are_within new.cells.items held.cells.items = rw (c.deref.ensures.value, c.deref-2.ensures.value) at c.are_within.ensures in
    stands_within c.cell_laws.ensures (map_of new.lo new.hi new.cells.items) c.args.self.now (map_of held.lo held.hi held.cells.items) c.args.other.now
    c.self.view_is c.other.view_is (sym value ∙ yes_within)
