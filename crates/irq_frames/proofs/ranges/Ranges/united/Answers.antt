use Rattle.std.proofs.Common.{ℕ, List, sym, subst, arith}
use Rattle.irq_frames.specs.Ranges.{AreRanges}
use Rattle.irq_frames.proofs.RangeLemmas.{each_goes_up}
use Rattle.irq_frames.proofs.ranges.Ranges.united.Goals as goal

pub add-requires : goal.add-requires
add-requires c =
    let are = subst (λ (ranges : List (ℕ × ℕ)). AreRanges 0 65535 ranges) (sym c.deref-range-items.ensures.value) c.other.invariant in
    each_goes_up 0 65535 c.deref-range-items.result.now c.loop-range.range-index (0, 0) are (omega arith)
