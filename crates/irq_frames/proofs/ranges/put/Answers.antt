use Rattle.std.proofs.Common.{◌≡◌, ◌≤◌, ◌<◌, ◌∙◌, ◌+◌, ℕ, min, length, drop, sym, ap, subst, arith}
use Rattle.std.proofs.lemmas.List.{get_or_default}
use Rattle.irq_frames.specs.Ranges.{EachReaches, with_range}
use Rattle.irq_frames.proofs.RangeLemmas.{put_step}
use Rattle.irq_frames.proofs.ranges.put.Goals as goal

pub loop-ranges-preserved : goal.loop-ranges-preserved
loop-ranges-preserved c =
    let items = c.loop-ranges.ranges.items in
    let range = c.remove-range.result in
    let index = c.args.index in
    let removed = c.remove-range.new.self.items in
    let lt : index < length items = omega arith in
    let same : c.index.result.now ≡ range = c.index.ensures ∙ get_or_default items index c.index.result.now range lt ∙ sym c.remove-range.ensures.value in
    let near : range.0 ≤ c.loop-ranges.high + 1 = subst (λ (r : ℕ × ℕ). r.0 ≤ c.loop-ranges.high + 1) same c.if-index-high.true in
    let step = put_step items removed index c.loop-ranges.low c.loop-ranges.high range lt c.remove-range.ensures.value c.remove-range.ensures.by_index.2 c.loop-ranges.invariant.reaches near in
    record {
      inside = omega (arith, c.remove-range.ensures.len);
      room = omega (arith, c.remove-range.ensures.len, c.remove-range.ensures.capacity);
      front = step.0 ∙ c.loop-ranges.invariant.front;
      reaches = subst (λ low. EachReaches low (drop index removed)) (sym c.min-low.ensures) step.1;
      left =
          ap (λ low. with_range low c.max-high.result (drop index removed)) c.min-low.ensures
          ∙ ap (λ high. with_range (min c.loop-ranges.low range.0) high (drop index removed)) c.max-high.ensures
          ∙ step.2 ∙ c.loop-ranges.invariant.left;
    }
