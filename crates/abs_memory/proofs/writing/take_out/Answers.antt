use Rattle.std.proofs.Common.{◌∙◌}
use Rattle.abs_memory.proofs.Places.{no_byte_same, removed, ascend_filter}
use Rattle.abs_memory.proofs.writing.take_out.Goals as goal

pub returns-in-Some-clause-value : goal.returns-in-Some-clause-value
returns-in-Some-clause-value c =
    let found = rw c.deref.ensures.value at c.in-Some.ensures in
    c.remove.ensures.items ∙ removed 0 c.args.cells.now.items c.args.at c.in-Some.index c.requires found.0 found.1

pub returns-in-Some-clause-ascend : goal.returns-in-Some-clause-ascend
returns-in-Some-clause-ascend c =
    let found = rw c.deref.ensures.value at c.in-Some.ensures in
    rw (c.remove.ensures.items, removed 0 c.args.cells.now.items c.args.at c.in-Some.index c.requires found.0 found.1)
    (ascend_filter 0 _ c.args.cells.now.items c.requires)

pub returns-in-None-clause-value : goal.returns-in-None-clause-value
returns-in-None-clause-value c = no_byte_same c.args.cells.now.items c.args.at (rw c.deref.ensures.value at c.in-None.ensures)
