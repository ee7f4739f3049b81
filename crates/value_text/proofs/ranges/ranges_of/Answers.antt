use Rattle.std.proofs.Common.{take, get_or, add-one, ap, ◌∙◌, sym}
use Rattle.irq_frames.specs.Ranges.{with_range}
use Rattle.value_text.proofs.RangeLemmas.{add_next, range_at}
use Rattle.value_text.proofs.ranges.ranges_of.Goals as goal

pub add-requires : goal.add-requires
add-requires c = (range_at 0 65535 c.loop-range.range-index c.args.ranges.now c.requires c.loop-range-test.true).1

pub loop-range-preserved : goal.loop-range-preserved
loop-range-preserved c =
    let i = c.loop-range.range-index in
    let range = get_or c.args.ranges.now i (0, 0) in
    c.in_ok-add.ensures.value ∙ ap (with_range range.0 range.1) c.loop-range.invariant ∙ add_next 0 65535 i c.args.ranges.now c.requires c.loop-range-test.true
    ∙ ap (λ n. take n c.args.ranges.now) (sym (add-one i))
