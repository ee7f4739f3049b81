use Rattle.std.proofs.Common.{◌≡◌, ℕ, List, drop, ◌∙◌, ap, arith}
use Rattle.value_set.specs.Form.{gather}
use Rattle.value_bits.specs.declared.tri.Tri.{Tri}
use Rattle.value_bits.specs.Bits.{from_bits, known_bits}
use Rattle.value_bits.proofs.HalfSets.{high_few, high_many, drop_whole}
use Rattle.value_bits.proofs.halves.high_of_several.Goals as goal

pub returns-then-count-le256 : goal.returns-then-count-le256
returns-then-count-le256 c =
    high_few c.args.a.now c.bytes_of.result (c.bytes_of.ensures ∙ ap (λ (xs : List ℕ). gather 256 xs) (c.as_slice.ensures.value ∙ c.high_bytes.ensures)) (omega arith)

pub returns : goal.returns
returns c =
    let known : c.as_slice-2.result.now ≡ known_bits 16 c.args.a.now = cc in
    let rest = drop_whole 8 c.as_slice-2.result.now ∙ ap (λ (bits : List Tri). drop 8 bits) known in
    high_many c.args.a.now c.from_form.result
    (c.from_form.ensures ∙ c.from_bits.ensures.value ∙ ap (λ (bits : List Tri). from_bits 8 bits) rest) (omega arith)
