use Rattle.std.proofs.Common.{sym, ◌∙◌, subst, arith}
use Rattle.irq_frames.specs.Ranges.{AreRanges}
use Rattle.value_text.specs.Ranges.{ranges_only}
use Rattle.value_text.proofs.RangeLemmas.{wider}
use Rattle.value_text.proofs.ranges.read_ranges.Goals as goal

pub ranges_of-requires : goal.ranges_of-requires
ranges_of-requires c =
    subst (AreRanges 0 65535) (c.deref.ensures.value ∙ sym c.deref-2.ensures.value)
    (wider 0 c.args.lo c.args.hi 65535 c.deref.result.now (omega arith) (omega arith)
    (ranges_only c.args.lo c.args.hi c.deref.result.now (sym c.are_ranges.ensures ∙ c.if-not-are_ranges.false)))
