use Rattle.abs_memory.proofs.Lists.{list_ascends}
use Rattle.abs_memory.proofs.list.CellListCells.next.Goals as goal

pub next-requires : goal.next-requires
next-requires c = rw c.deref.ensures.value (list_ascends c.self.inside.lo c.self.inside.hi c.self.inside.lo c.self.inside.cells.items c.self.invariant.are)
