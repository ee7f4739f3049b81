use Rattle.std.proofs.Common.{◌∙◌, ◌+◌, ◌%◌}
use Rattle.entry_value.specs.Cells.{has_byte}
use Rattle.abs_memory.proofs.Places.{filter_both}
use Rattle.abs_memory.proofs.writing.take_out_met.Goals as goal

pub returns-then-size-eq2-clause-value : goal.returns-then-size-eq2-clause-value
returns-then-size-eq2-clause-value c =
    c.take_out-then-size-eq2.ensures.value
    ∙ rw (c.take_out.ensures.value, c.if-size-eq2.true)
    (filter_both (λ cell. has_byte cell c.args.at) (λ cell. has_byte cell ((c.args.at + 1) % 65536)) c.args.cells.now.items)
