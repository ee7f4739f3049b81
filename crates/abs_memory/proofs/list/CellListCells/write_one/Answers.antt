use Rattle.std.proofs.Common.{arith}
use Rattle.entry_value.specs.Cells.{write_one}
use Rattle.entry_value.specs.Representing.{IsWritten, is_written}
use Rattle.abs_memory.proofs.Lists.{list_ascends}
use Rattle.abs_memory.proofs.Seen.{map_of, seen}
use Rattle.abs_memory.proofs.list.CellListCells.write_one.Goals as goal
use Rattle.abs_memory.proofs.list.CellListCells.write_one.Goals.{After-write_one}

pub write_one-requires-clause-ascend : goal.write_one-requires-clause-ascend
write_one-requires-clause-ascend c =
    rw c.reserve.ensures.items (list_ascends c.self.inside.lo c.self.inside.hi c.self.inside.lo c.self.inside.cells.items c.self.invariant.are)

-- the cells that are left, as callers see them
written : (c : After-write_one) → let held = c.self.inside in
    IsWritten (map_of held.lo held.hi held.cells.items) c.args.self.now c.args.at c.args.size c.args.value c.write_one.new.cells.items
unfolding write_one
written c = is_written c.cell_laws.ensures _ _ _ _ _ _ (seen c.self.invariant c.self.view_is) (omega arith)
    (record { sized = c.requires.size; normal = c.form-normal.ensures.normal; byte = c.requires.byte }) (rw c.reserve.ensures.items at c.write_one.ensures)

pub invariant_of-self-2 : goal.invariant_of-self-2
invariant_of-self-2 c = record { some = c.self.invariant.some; high = c.self.invariant.high; are = (written c).are }

pub returns : goal.returns
returns c = let all = written c in record { value = all.value; kept = tt; covers = all.covers }
