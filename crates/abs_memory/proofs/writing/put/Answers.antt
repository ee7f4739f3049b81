use Rattle.std.proofs.Common.{◌∙◌}
use Rattle.abs_memory.proofs.Places.{inserted}
use Rattle.abs_memory.proofs.writing.put.Goals as goal

pub returns : goal.returns
returns c =
    let cells = c.args.cells.now.items in
    c.in-Ok.ensures.items ∙ rw (c.places_below-index.ensures.value, c.deref.ensures.value) (inserted c.args.cell cells)
