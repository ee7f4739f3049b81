use Rattle.std.proofs.Common.{◌≡◌, arith}
use Rattle.entry_value.specs.Cells.{read}
use Rattle.entry_value.specs.Representing.{is_read}
use Rattle.abs_pages.specs.Paging.{flat}
use Rattle.abs_pages.proofs.Seen.{seen}
use Rattle.abs_pages.proofs.pages.CellPagesCells.read.Goals as goal

pub returns : goal.returns
returns c =
    let value : c.read.result ≡ read (flat c.self.inside.pages.items) c.args.at c.args.size = rw c.deref.ensures.value at c.read.ensures in
    let all = is_read c.cell_laws.ensures _ c.args.self.now c.args.at c.args.size c.read.result (seen c.self.invariant c.self.view_is) (omega arith) c.requires value in
    record { value = all.value; byte = all.byte; holds = all.holds }
