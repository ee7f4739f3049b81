use Rattle.std.proofs.Common.{◌≡◌, List, take, ◌∙◌, ap, arith}
use Rattle.value_bits.specs.declared.tri.Tri.{Tri}
use Rattle.value_bits.specs.Bits.{from_bits, known_bits}
use Rattle.value_bits.proofs.HalfSets.{low_few, low_many}
use Rattle.value_bits.proofs.halves.low_of_several.Goals as goal

pub returns-then-count-le256 : goal.returns-then-count-le256
returns-then-count-le256 c = low_few c.args.a.now c.low_of_few.result c.low_of_few.ensures (omega arith)

pub returns : goal.returns
returns c =
    let known : c.as_slice.result.now ≡ known_bits 16 c.args.a.now = cc in
    low_many c.args.a.now c.from_form.result
    (c.from_form.ensures ∙ c.from_bits.ensures.value ∙ ap (λ (bits : List Tri). from_bits 8 (take 8 bits)) known) (omega arith)
