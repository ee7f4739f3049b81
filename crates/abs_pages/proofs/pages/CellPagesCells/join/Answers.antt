use Rattle.entry_value.specs.Cells.{join_cells}
use Rattle.entry_value.specs.Representing.{IsUnited, is_united, joins_unite}
use Rattle.abs_pages.specs.Paging.{flat}
use Rattle.abs_pages.proofs.Seen.{map_of, seen}
use Rattle.abs_pages.proofs.pages.CellPagesCells.join.Goals as goal
use Rattle.abs_pages.proofs.pages.CellPagesCells.join.Goals.{In_ok-passed}

-- the cells that are made, as callers see them
joined : (c : In_ok-passed) → let held = c.self.inside in
    IsUnited join_cells (map_of held.lo held.hi held.pages.items) c.args.self.now c.args.other.now (flat c.in_ok-passed.field-0.items)
unfolding join_cells
joined c = is_united join_cells (joins_unite c.cell_laws.ensures) _ _ _ _ _ (seen c.self.invariant c.self.view_is) (seen c.other.invariant c.other.view_is)
    (rw (c.deref.ensures.value, c.deref-2.ensures.value) at c.in_ok-passed.ensures.value)

pub invariant_of-result : goal.invariant_of-result
invariant_of-result c =
    record { some = c.self.invariant.some; high = c.self.invariant.high; form = c.in_ok-passed.ensures.pages; are = (joined c).are }

pub returns : goal.returns
returns c = let all = joined c in record { value = all.value; own = all.own; others = all.others }
