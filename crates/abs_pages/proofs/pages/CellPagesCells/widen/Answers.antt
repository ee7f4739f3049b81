use Rattle.entry_value.specs.Cells.{widen_cells}
use Rattle.entry_value.specs.Representing.{IsUnited, is_united, widenings_unite}
use Rattle.abs_pages.specs.Paging.{flat}
use Rattle.abs_memory.specs.Joining.{marks_below}
use Rattle.abs_pages.proofs.Seen.{map_of, seen}
use Rattle.abs_pages.proofs.pages.CellPagesCells.widen.Goals as goal
use Rattle.abs_pages.proofs.pages.CellPagesCells.widen.Goals.{In_ok-passed}

-- the cells that are made, as callers see them
widened : (c : In_ok-passed) → let held = c.self.inside in IsUnited (λ held new. widen_cells held new c.args.marks.now)
    (map_of held.lo held.hi held.pages.items) c.args.self.now c.args.new.now (flat c.in_ok-passed.field-0.items)
unfolding widen_cells
widened c =
    let marks = c.args.marks.now in
    is_united (λ held new. widen_cells held new marks) (widenings_unite c.cell_laws.ensures marks (marks_below marks (λ k. (c.type_inv.marks k).fits))) _ _ _ _ _
    (seen c.self.invariant c.self.view_is) (seen c.new.invariant c.new.view_is) (rw (c.deref.ensures.value, c.deref-2.ensures.value) at c.in_ok-passed.ensures.value)

pub invariant_of-result : goal.invariant_of-result
invariant_of-result c =
    record { some = c.self.invariant.some; high = c.self.invariant.high; form = c.in_ok-passed.ensures.pages; are = (widened c).are }

pub returns : goal.returns
returns c = let all = widened c in record { value = all.value; held = all.own; added = all.others }
