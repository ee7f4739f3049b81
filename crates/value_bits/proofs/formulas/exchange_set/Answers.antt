use Rattle.std.proofs.Common.{◌≡◌, ℕ, ◌+◌, ◌*◌, ◌++◌, ◌∙◌, List, take, drop, length, refl, sym, ap}
use Rattle.std.proofs.Math.Path.{ap₂}
use Rattle.std.proofs.lemmas.Nat.{pow-add}
use Rattle.value_bits.specs.declared.tri.Tri.{Tri}
use Rattle.value_bits.specs.Bits.{from_bits, known_bits}
use Rattle.value_bits.specs.Sets.{exchange_set}
use Rattle.value_bits.proofs.FormulaLaws.{exchange_long}
use Rattle.value_bits.proofs.Singly.{known_long}
use Rattle.value_bits.proofs.formulas.exchange_set.Goals as goal

pub combined-requires-clause-width : goal.combined-requires-clause-width
combined-requires-clause-width c =
    let half = c.power_of_two-n.ensures.value in
    ap₂ (λ (x y : ℕ). x * y) half half ∙ sym (pow-add 2 c.args.half c.args.half) ∙ sym c.power_of_two.ensures.value

pub exchanged_bits-requires-clause-wide : goal.exchanged_bits-requires-clause-wide
exchanged_bits-requires-clause-wide c =
    let same : c.as_slice.result.now ≡ known_bits (c.args.half + c.args.half) c.args.a.now = cc in
    ap (λ (bits : List Tri). length bits) same ∙ known_long (c.args.half + c.args.half) c.args.a.now

pub with_bits-requires-clause-wide : goal.with_bits-requires-clause-wide
with_bits-requires-clause-wide c =
    let known = known_bits (c.args.half + c.args.half) c.args.a.now in
    let same : c.as_slice-in-None.result.now ≡ drop c.args.half known ++ take c.args.half known = cc in
    ap (λ (bits : List Tri). length bits) same ∙ exchange_long c.args.half c.args.a.now

pub returns-in-Some : goal.returns-in-Some
unfolding exchange_set
returns-in-Some c = rw (← c.power_of_two.ensures.value, ← c.power_of_two-n.ensures.value, ← c.no_carry-none.ensures) (c.in-Some.ensures.few _)

pub returns-in-None : goal.returns-in-None
unfolding exchange_set
returns-in-None c =
    let width = c.args.half + c.args.half in
    let known = known_bits width c.args.a.now in
    let same : c.as_slice-in-None.result.now ≡ drop c.args.half known ++ take c.args.half known = cc in
    let many : from_bits width (drop c.args.half known ++ take c.args.half known) ≡ exchange_set c.args.half c.args.a.now =
    rw (← c.power_of_two.ensures.value, ← c.power_of_two-n.ensures.value, ← c.no_carry-none.ensures) (c.in-None.ensures.many refl _) in
    c.with_bits.ensures ∙ ap (λ (bits : List Tri). from_bits width bits) same ∙ many
