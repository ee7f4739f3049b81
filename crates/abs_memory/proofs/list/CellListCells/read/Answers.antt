use Rattle.std.proofs.Common.{◌≡◌, arith}
use Rattle.entry_value.specs.Cells.{read}
use Rattle.entry_value.specs.Representing.{is_read}
use Rattle.abs_memory.proofs.Lists.{list_ascends}
use Rattle.abs_memory.proofs.Seen.{seen}
use Rattle.abs_memory.proofs.list.CellListCells.read.Goals as goal

pub read-requires : goal.read-requires
read-requires c = rw c.deref.ensures.value (list_ascends c.self.inside.lo c.self.inside.hi c.self.inside.lo c.self.inside.cells.items c.self.invariant.are)

pub returns : goal.returns
returns c =
    let value : c.read.result ≡ read c.self.inside.cells.items c.args.at c.args.size = rw c.deref.ensures.value at c.read.ensures in
    let all = is_read c.cell_laws.ensures _ c.args.self.now c.args.at c.args.size c.read.result (seen c.self.invariant c.self.view_is) (omega arith) c.requires value in
    record { value = all.value; byte = all.byte; holds = all.holds }
