use Rattle.std.proofs.Common.{◌<◌, ◌≤◌, ◌∙◌, length, get_or, sym, ap, arith}
use Rattle.std.specs.Prelude.{nat_le}
use Rattle.std.proofs.lemmas.Bool.{le-ltb}
use Rattle.irq_frames.specs.Ranges.{ends_below}
use Rattle.irq_frames.proofs.RangeLemmas.{found_there, found_nowhere}
use Rattle.irq_frames.proofs.ranges.lies_in_one.Goals as goal

pub returns-then-index-ranges : goal.returns-then-index-ranges
returns-then-index-ranges c =
    let inside : ends_below c.args.ranges.now c.args.range.1 < length c.args.ranges.now = omega (arith, c.ends_below-index.ensures.value) in
    ap (λ i. nat_le (get_or c.args.ranges.now i (0, 0)).0 c.args.range.0) c.ends_below-index.ensures.value
    ∙ sym (found_there c.args.range 0 65535 c.args.ranges.now c.requires inside)

pub returns-else-index-ranges : goal.returns-else-index-ranges
returns-else-index-ranges c =
    let past : length c.args.ranges.now ≤ ends_below c.args.ranges.now c.args.range.1 = omega (arith, c.ends_below-index.ensures.value) in
    le-ltb c.ends_below-index.result (length c.args.ranges.now) (omega arith)
    ∙ sym (found_nowhere c.args.range c.args.ranges.now past)
