use Rattle.std.proofs.Common.{◌≡◌, ℕ, ◌+◌, ◌-◌, ◌/◌, ◌^◌, ◌∙◌, List, length, subst, sym, ap, arith}
use Rattle.std.proofs.Math.Path.{ap₂}
use Rattle.value_set.specs.Form.{gather, make}
use Rattle.value_bits.specs.Bits.{numbers}
use Rattle.value_bits.proofs.Fillings.{AllBelow, all_below_at, few_numbers, numbers_below}
use Rattle.value_bits.proofs.Agreeing.{filled_order, few_value, run_value}
use Rattle.value_bits.proofs.forming.with_bits.Goals as goal

pub gathered-requires-clause-below : goal.gathered-requires-clause-below
gathered-requires-clause-below c =
    let m = c.power_of_two-modulus.result in
    let same : c.as_slice.result.now ≡ numbers c.args.all.now = cc in
    let size : 2 ^ length c.args.all.now ≡ m = ap (λ (n : ℕ). 2 ^ n) c.requires.wide ∙ sym c.power_of_two-modulus.ensures.value in
    let below = subst (λ (n : ℕ). AllBelow n (numbers c.args.all.now)) size (numbers_below c.args.all.now) in
    rw same (λ k d short. all_below_at m (numbers c.args.all.now) below k d short)

pub gathered-requires-clause-some : goal.gathered-requires-clause-some
gathered-requires-clause-some c =
    let some = few_numbers c.args.all.now (omega arith) in
    let same : c.as_slice.result.now ≡ numbers c.args.all.now = cc in
    omega (arith, some.0, ap length same)

pub returns-then-unknown_count-le-FEW_UNKNOWN : goal.returns-then-unknown_count-le-FEW_UNKNOWN
returns-then-unknown_count-le-FEW_UNKNOWN c =
    let same : c.as_slice.result.now ≡ numbers c.args.all.now = cc in
    few_value c.args.width c.args.all.now c.gathered.result (c.gathered.ensures ∙ ap₂ (λ (m : ℕ) (xs : List ℕ). gather m xs) c.power_of_two-modulus.ensures.value same) (omega arith)

pub overflow_sub-filled : goal.overflow_sub-filled
overflow_sub-filled c = let order = filled_order c.args.all.now in omega (arith, order)

pub make-requires-clause-base_small : goal.make-requires-clause-base_small
make-requires-clause-base_small c =
    let size = ap (λ (n : ℕ). 2 ^ n) c.requires.wide in
    omega (arith, size, c.filled-least.ensures.below, c.power_of_two-modulus.ensures)

pub make-requires-clause-fits : goal.make-requires-clause-fits
make-requires-clause-fits c =
    let size = ap (λ (n : ℕ). 2 ^ n) c.requires.wide in
    let end = c.filled.result - c.filled-least.result in
    c.set_laws.ensures.run_up_to c.power_of_two-modulus.result c.power_of_two-stride.result end
    (omega (arith, size, c.filled.ensures.below, c.power_of_two-modulus.ensures))

pub returns : goal.returns
returns c =
    let count = (c.filled.result - c.filled-least.result) / c.power_of_two-stride.result + 1 in
    run_value c.args.width c.args.all.now c.make.result c.filled-least.result c.power_of_two-stride.result c.filled.result
    c.filled-least.ensures.value (c.power_of_two-stride.ensures.value ∙ ap (λ (k : ℕ). 2 ^ k) c.lowest_unknown.ensures.value) c.filled.ensures.value
    (c.make.ensures.value ∙ ap (λ (m : ℕ). make m c.filled-least.result c.power_of_two-stride.result count) c.power_of_two-modulus.ensures.value) (omega arith)
