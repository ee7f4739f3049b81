use Rattle.std.proofs.Common.{arith, sym, ◌∙◌, length, ◌-◌, ◌+◌, ap, List, ℕ, drop, take, subst}
use Rattle.std.proofs.lemmas.List.{take_rest}
use Rattle.value_set.specs.Gaps.{decided}
use Rattle.value_set.specs.Form.{Ascends}
use Rattle.value_set.proofs.Members.{Ascends-at}
use Rattle.value_set.proofs.Gathers.{hull_base_below, Ascends-rest, Ascends-next, drop_at, gap_end}
use Rattle.value_set.proofs.Gaps.{from_around}
use Rattle.value_set.proofs.gathering.hull_base.Goals as goal

pub around-gap-requires-clause-below : goal.around-gap-requires-clause-below
around-gap-requires-clause-below c = (Ascends-at 0 c.args.modulus (length c.args.values.now - 1) c.args.values.now c.requires.ascending (omega arith)).1

pub loop-value-init : goal.loop-value-init
loop-value-init c = record {
  rest_decides = rw (take_rest c.args.values.now 1) (from_around c.args.modulus c.args.values.now c.around-gap.result c.requires.some c.around-gap.ensures);
  rest_ascends = rw (take_rest c.args.values.now 1) (subst (λ (n : ℕ). Ascends n c.args.modulus (drop 1 c.args.values.now)) (sym (ap (λ g. g.previous) c.around-gap.ensures))
      (Ascends-rest c.args.modulus c.args.values.now c.requires.some c.requires.ascending));
}

pub past-gap-requires : goal.past-gap-requires
past-gap-requires c = record { upward = (Ascends-next c.loop-value.gap.previous c.args.modulus c.loop-value.value-index _ c.loop-value-test.true c.loop-value.invariant.rest_ascends).0 }

pub loop-value-preserved : goal.loop-value-preserved
loop-value-preserved c =
    let rest : List ℕ = take (length c.args.values.now - 1) (drop 1 c.args.values.now) in
    record {
      rest_decides = c.past-gap.ensures.decides (drop (c.loop-value.value-index + 1) rest) ∙ ap (λ (xs : List ℕ). decided c.loop-value.gap xs) (sym (drop_at rest c.loop-value.value-index c.loop-value-test.true))
          ∙ c.loop-value.invariant.rest_decides;
      rest_ascends = subst (λ (n : ℕ). Ascends n c.args.modulus (drop (c.loop-value.value-index + 1) rest)) (sym c.past-gap.ensures.last)
          (Ascends-next c.loop-value.gap.previous c.args.modulus c.loop-value.value-index rest c.loop-value-test.true c.loop-value.invariant.rest_ascends).2;
    }

pub returns-clause-value : goal.returns-clause-value
returns-clause-value c = sym (gap_end c.loop-value.gap.base c.loop-value.gap.width c.loop-value.gap.previous c.loop-value.value-index _ c.loop-value-test.false)
    ∙ c.loop-value.invariant.rest_decides

pub returns-clause-below : goal.returns-clause-below
returns-clause-below c = let low = hull_base_below c.args.modulus c.args.values.now c.requires.some c.requires.ascending in
    omega (arith, low, gap_end c.loop-value.gap.base c.loop-value.gap.width c.loop-value.gap.previous c.loop-value.value-index _ c.loop-value-test.false, c.loop-value.invariant.rest_decides)
