use Rattle.std.proofs.Common.{◌≡◌, ◌+◌, ◌∙◌, List, length, ap, arith}
use Rattle.value_bits.specs.declared.tri.Tri.{Tri}
use Rattle.value_bits.specs.Bits.{known_bits}
use Rattle.value_bits.specs.Sets.{shift_bits}
use Rattle.value_bits.proofs.FormulaLaws.{shift_long}
use Rattle.value_bits.proofs.Powers.{two_below}
use Rattle.value_bits.proofs.Singly.{known_long}
use Rattle.value_bits.proofs.formulas.shift_set.Goals as goal

pub combined-requires-clause-carry_normal : goal.combined-requires-clause-carry_normal
combined-requires-clause-carry_normal c = c.top_carry.ensures.normal c.power_of_two.result (omega (arith, two_below c.args.place, c.power_of_two.ensures.value))

pub shift_bits-requires-clause-wide : goal.shift_bits-requires-clause-wide
shift_bits-requires-clause-wide c =
    let same : c.as_slice.result.now ≡ known_bits (c.args.place + 1) c.args.a.now = cc in
    ap (λ (bits : List Tri). length bits) same ∙ known_long (c.args.place + 1) c.args.a.now

pub with_bits-requires-clause-wide : goal.with_bits-requires-clause-wide
with_bits-requires-clause-wide c =
    let same : c.as_slice-in-None.result.now ≡ shift_bits c.args.place c.args.top (known_bits (c.args.place + 1) c.args.a.now) = cc in
    ap (λ (bits : List Tri). length bits) same ∙ shift_long c.args.place c.args.a.now c.args.top
