use Rattle.std.proofs.Common.{◌≡◌, ℕ, ◌*◌, ◌++◌, List, ◌∙◌, ap, arith}
use Rattle.std.proofs.Math.Path.{ap₂}
use Rattle.value_bits.specs.declared.tri.Tri.{Tri}
use Rattle.value_bits.specs.Bits.{from_bits, known_bits}
use Rattle.value_bits.proofs.HalfSets.{pair_few, pair_many}
use Rattle.value_bits.proofs.halves.pair_of_several.Goals as goal

pub returns-then-count-le256 : goal.returns-then-count-le256
returns-then-count-le256 c =
    let few = ap₂ (λ (x y : ℕ). x * y) c.count.ensures.value c.count-2.ensures.value in
    pair_few c.args.low.now c.args.high.now c.pair_of_few.result c.pair_of_few.ensures (omega (arith, few))

pub returns : goal.returns
returns c =
    let many = ap₂ (λ (x y : ℕ). x * y) c.count.ensures.value c.count-2.ensures.value in
    let known : c.as_slice-3.result.now ≡ known_bits 8 c.args.low.now ++ known_bits 8 c.args.high.now = cc in
    pair_many c.args.low.now c.args.high.now c.from_form.result
    (c.from_form.ensures ∙ c.from_bits.ensures.value ∙ ap (λ (bits : List Tri). from_bits 16 bits) known) (omega (arith, many))
