use Rattle.std.proofs.Common.{◌≡◌, ◌∙◌, List, length, refl, ap}
use Rattle.value_bits.specs.declared.tri.Tri.{Tri}
use Rattle.value_bits.specs.Bits.{from_bits}
use Rattle.value_bits.specs.Sets.{logic_bits, logic_set}
use Rattle.value_bits.proofs.FormulaLaws.{logic_long}
use Rattle.value_bits.proofs.formulas.logic_set.Goals as goal

pub with_bits-requires-clause-wide : goal.with_bits-requires-clause-wide
with_bits-requires-clause-wide c =
    let same : c.as_slice.result.now ≡ logic_bits c.args.width c.args.logic c.args.a.now c.args.b.now = cc in
    ap (λ (bits : List Tri). length bits) same ∙ logic_long c.args.width c.args.logic c.args.a.now c.args.b.now

pub returns-in-Some : goal.returns-in-Some
unfolding logic_set
returns-in-Some c = rw (← c.power_of_two-modulus.ensures.value, ← c.no_carry.ensures) (c.in-Some.ensures.few _)

pub returns-in-None : goal.returns-in-None
unfolding logic_set
returns-in-None c =
    let bits = logic_bits c.args.width c.args.logic c.args.a.now c.args.b.now in
    let same : c.as_slice.result.now ≡ bits = cc in
    let many : from_bits c.args.width bits ≡ logic_set c.args.width c.args.logic c.args.a.now c.args.b.now =
    rw (← c.power_of_two-modulus.ensures.value, ← c.no_carry.ensures) (c.in-None.ensures.many refl _) in
    c.with_bits.ensures ∙ ap (λ (bits : List Tri). from_bits c.args.width bits) same ∙ many
