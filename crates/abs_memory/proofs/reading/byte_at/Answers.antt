use Rattle.std.proofs.Common.{◌∙◌, ap, Some}
use Rattle.std.proofs.lemmas.List.{get_or_read}
use Rattle.abs_memory.proofs.Places.{low_byte_of, high_byte_of}
use Rattle.abs_memory.proofs.reading.byte_at.Goals as goal

pub returns-then-cell-at : goal.returns-then-cell-at
returns-then-cell-at c =
    ap Some c.low.ensures.value
    ∙ low_byte_of c.args.cells.now c.args.at c.in_ok-index.index c.index-cells-index.result c.requires c.in_ok-index.ensures
    (get_or_read c.args.cells.now c.in_ok-index.index _ c.in_ok-index.ensures.0 c.index-cells-index.is) c.if-cell-at.true

pub returns-else-cell-at : goal.returns-else-cell-at
returns-else-cell-at c =
    ap Some c.high.ensures.value
    ∙ high_byte_of c.args.cells.now c.args.at c.in_ok-index.index c.index-cells-index.result c.requires c.in_ok-index.ensures
    (get_or_read c.args.cells.now c.in_ok-index.index _ c.in_ok-index.ensures.0 c.index-cells-index.is) c.if-cell-at.false
