use Rattle.std.proofs.Common.{◌≡◌, ◌≤◌, ◌∙◌, ◌+◌, ◌||◌, ℕ, List, drop, sym, ap, subst, arith}
use Rattle.irq_frames.specs.Ranges.{AreRanges, EachReaches, ends_below, has_address, lies_in, with_range}
use Rattle.irq_frames.proofs.RangeLemmas.{added_has, added_items, reaching, with_range_form}
use Rattle.irq_frames.proofs.ranges.Ranges.add.Goals as goal

pub put-requires-clause-reaches : goal.put-requires-clause-reaches
put-requires-clause-reaches c =
    let at = c.saturating_sub.result in
    let near : c.args.lo ≤ at + 1 = omega (arith, c.saturating_sub.ensures) in
    let viewed : c.deref.result.now ≡ c.self.inside.ranges.items = c.deref.ensures.value ∙ c.reserve.ensures.items in
    let place : c.ends_below-index.result ≡ ends_below c.self.inside.ranges.items at = c.ends_below-index.ensures.value ∙ ap (λ ranges. ends_below ranges at) viewed in
    subst (λ (ranges : List (ℕ × ℕ)). EachReaches c.args.lo (drop c.ends_below-index.result ranges)) (sym c.reserve.ensures.items)
    (subst (λ i. EachReaches c.args.lo (drop i c.self.inside.ranges.items)) (sym place) (reaching 0 65535 at c.args.lo c.self.inside.ranges.items near c.self.invariant))

pub invariant_of-self-2 : goal.invariant_of-self-2
invariant_of-self-2 c =
    let before = c.self.inside.ranges.items in
    let items : c.put.new.ranges.items ≡ with_range c.args.lo c.args.hi before =
    added_items before c.reserve.new.self.items c.deref.result.now c.put.new.ranges.items c.ends_below-index.result c.saturating_sub.result c.args.lo c.args.hi
    c.reserve.ensures.items c.deref.ensures.value c.ends_below-index.ensures.value c.saturating_sub.ensures c.put.ensures in
    subst (AreRanges 0 65535) (sym items) (with_range_form 0 65535 c.args.lo c.args.hi before (omega arith) c.requires (omega arith) c.self.invariant)

pub returns-clause-value : goal.returns-clause-value
returns-clause-value c =
    let before = c.self.inside.ranges.items in
    let items : c.put.new.ranges.items ≡ with_range c.args.lo c.args.hi before =
    added_items before c.reserve.new.self.items c.deref.result.now c.put.new.ranges.items c.ends_below-index.result c.saturating_sub.result c.args.lo c.args.hi
    c.reserve.ensures.items c.deref.ensures.value c.ends_below-index.ensures.value c.saturating_sub.ensures c.put.ensures in
    items ∙ ap (with_range c.args.lo c.args.hi) c.self.view_is

pub returns-clause-has : goal.returns-clause-has
returns-clause-has c = λ at.
    let before = c.self.inside.ranges.items in
    let items : c.put.new.ranges.items ≡ with_range c.args.lo c.args.hi before =
    added_items before c.reserve.new.self.items c.deref.result.now c.put.new.ranges.items c.ends_below-index.result c.saturating_sub.result c.args.lo c.args.hi
    c.reserve.ensures.items c.deref.ensures.value c.ends_below-index.ensures.value c.saturating_sub.ensures c.put.ensures in
    ap (λ ranges. has_address ranges at) items ∙ added_has 0 65535 at c.args.lo c.args.hi before c.requires c.self.invariant
    ∙ ap (λ ranges. has_address ranges at || lies_in (at, at) (c.args.lo, c.args.hi)) c.self.view_is
