-- When two facts are the same.
use Rattle.std.proofs.Common.{◌≡◌, ℕ, ◌==◌, ◌&&◌, true, refl, ap, ◌∙◌}
use Rattle.std.proofs.lemmas.Bool.{and_from, and_parts, eqb-true, eq-eqb}
use Rattle.mcs51_state.specs.declared.fact.LinearFact.{LinearFact}
use Rattle.mcs51_state.specs.declared.fact.Compared.{Compared}
use Rattle.mcs51_state.specs.declared.fact.Compared.TheVariants.{Accumulator, Ram}
use Rattle.mcs51_state.specs.declared.fact.CarryFact.{CarryFact}
use Rattle.known_parts.specs.Options.{IsEquality}
use Rattle.mcs51_state.specs.Facts.{is_same_linear, is_same_compared, is_same_carry}

linear_itself : (a : LinearFact) → is_same_linear a a ≡ true
linear_itself a =
    let place = a.place == a.place in
    let factor = a.factor == a.factor in
    let added = a.added == a.added in
    and_from (place && factor) added (and_from place factor (eq-eqb a.place a.place refl) (eq-eqb a.factor a.factor refl)) (eq-eqb a.added a.added refl)

linear_is : (a b : LinearFact) → is_same_linear a b ≡ true → a ≡ b
linear_is a b h =
    let place = a.place == b.place in
    let factor = a.factor == b.factor in
    let added = a.added == b.added in
    let two = and_parts (place && factor) added h in
    let one = and_parts place factor two.0 in
    let p : a.place ≡ b.place = eqb-true a.place b.place one.0 in
    let k : a.factor ≡ b.factor = eqb-true a.factor b.factor one.1 in
    let c : a.added ≡ b.added = eqb-true a.added b.added two.1 in
    let made : ℕ → ℕ → ℕ → LinearFact = λ place factor added. record { place = place; factor = factor; added = added } in
    ap (λ x. made x a.factor a.added) p ∙ ap (λ x. made b.place x a.added) k ∙ ap (made b.place b.factor) c

pub linear_equality : IsEquality is_same_linear
linear_equality = record { itself = linear_itself; same = linear_is }

compared_itself : (a : Compared) → is_same_compared a a ≡ true
compared_itself Accumulator = refl
compared_itself (Ram at) = eq-eqb at at refl

compared_is : (a b : Compared) → is_same_compared a b ≡ true → a ≡ b
compared_is Accumulator Accumulator h = refl
compared_is (Ram at) (Ram other) h = ap Ram (eqb-true at other h)
compared_is Accumulator (Ram other) h = absurd (cc)
compared_is (Ram at) Accumulator h = absurd (cc)

carry_itself : (a : CarryFact) → is_same_carry a a ≡ true
carry_itself a = and_from (is_same_compared a.compared a.compared) (a.bound == a.bound) (compared_itself a.compared) (eq-eqb a.bound a.bound refl)

carry_is : (a b : CarryFact) → is_same_carry a b ≡ true → a ≡ b
carry_is a b h =
    let parts = and_parts (is_same_compared a.compared b.compared) (a.bound == b.bound) h in
    let compared : a.compared ≡ b.compared = compared_is a.compared b.compared parts.0 in
    let bound : a.bound ≡ b.bound = eqb-true a.bound b.bound parts.1 in
    let made : Compared → ℕ → CarryFact = λ compared bound. record { compared = compared; bound = bound } in
    ap (λ x. made x a.bound) compared ∙ ap (made b.compared) bound

pub carry_equality : IsEquality is_same_carry
carry_equality = record { itself = carry_itself; same = carry_is }
