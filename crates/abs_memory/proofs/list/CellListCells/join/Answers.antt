use Rattle.entry_value.specs.Cells.{join_cells}
use Rattle.entry_value.specs.Representing.{IsUnited, is_united, joins_unite}
use Rattle.abs_memory.proofs.Seen.{map_of, seen}
use Rattle.abs_memory.proofs.Lists.{list_ascends}
use Rattle.abs_memory.proofs.list.CellListCells.join.Goals as goal
use Rattle.abs_memory.proofs.list.CellListCells.join.Goals.{In_ok-join}

pub join-requires-clause-held : goal.join-requires-clause-held
join-requires-clause-held c = rw c.deref.ensures.value (list_ascends c.self.inside.lo c.self.inside.hi c.self.inside.lo c.self.inside.cells.items c.self.invariant.are)

pub join-requires-clause-new : goal.join-requires-clause-new
join-requires-clause-new c = rw c.deref-2.ensures.value (list_ascends c.other.inside.lo c.other.inside.hi c.other.inside.lo c.other.inside.cells.items c.other.invariant.are)

-- the cells that are made, as callers see them
joined : (c : In_ok-join) → let held = c.self.inside in
    IsUnited join_cells (map_of held.lo held.hi held.cells.items) c.args.self.now c.args.other.now c.in_ok-join.field-0.items
joined c = is_united join_cells (joins_unite c.cell_laws.ensures) _ _ _ _ _ (seen c.self.invariant c.self.view_is) (seen c.other.invariant c.other.view_is)
    (rw (c.deref.ensures.value, c.deref-2.ensures.value) at c.in_ok-join.ensures)

pub invariant_of-result : goal.invariant_of-result
invariant_of-result c = record { some = c.self.invariant.some; high = c.self.invariant.high; are = (joined c).are }

pub returns : goal.returns
returns c = let all = joined c in record { value = all.value; own = all.own; others = all.others }
