use Rattle.entry_value.specs.Cells.{widen_cells}
use Rattle.entry_value.specs.Representing.{IsUnited, is_united, widenings_unite}
use Rattle.abs_memory.proofs.Seen.{map_of, seen}
use Rattle.abs_memory.specs.Joining.{marks_below}
use Rattle.abs_memory.proofs.Lists.{list_ascends}
use Rattle.abs_memory.proofs.list.CellListCells.widen.Goals as goal
use Rattle.abs_memory.proofs.list.CellListCells.widen.Goals.{In_ok-widen}

pub widen-requires-clause-held : goal.widen-requires-clause-held
widen-requires-clause-held c = rw c.deref.ensures.value (list_ascends c.self.inside.lo c.self.inside.hi c.self.inside.lo c.self.inside.cells.items c.self.invariant.are)

pub widen-requires-clause-new : goal.widen-requires-clause-new
widen-requires-clause-new c = rw c.deref-2.ensures.value (list_ascends c.new.inside.lo c.new.inside.hi c.new.inside.lo c.new.inside.cells.items c.new.invariant.are)

-- the cells that are made, as callers see them
widened : (c : In_ok-widen) → let held = c.self.inside in
    IsUnited (λ held new. widen_cells held new c.args.marks.now) (map_of held.lo held.hi held.cells.items) c.args.self.now c.args.new.now c.in_ok-widen.field-0.items
widened c =
    let marks = c.args.marks.now in
    is_united (λ held new. widen_cells held new marks) (widenings_unite c.cell_laws.ensures marks (marks_below marks (λ k. (c.type_inv.marks k).fits))) _ _ _ _ _
    (seen c.self.invariant c.self.view_is) (seen c.new.invariant c.new.view_is) (rw (c.deref.ensures.value, c.deref-2.ensures.value) at c.in_ok-widen.ensures)

pub invariant_of-result : goal.invariant_of-result
invariant_of-result c = record { some = c.self.invariant.some; high = c.self.invariant.high; are = (widened c).are }

pub returns : goal.returns
returns c = let all = widened c in record { value = all.value; held = all.own; added = all.others }
