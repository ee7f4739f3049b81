use Rattle.std.proofs.Common.{ℕ, ◌∙◌, List, length, refl, ap, arith}
use Rattle.value_set.specs.Form.{members, gather}
use Rattle.value_bits.proofs.HalfSets.{words_some, words_of_bytes}
use Rattle.value_bits.proofs.halves.pair_of_few.Goals as goal

pub returns-then-is_zero : goal.returns-then-is_zero
returns-then-is_zero c = c.from_bytes.ensures.value
    ∙ ap (λ (xs : List ℕ). gather 65536 xs) (words_of_bytes (members 256 c.args.low.now) c.args.high.now (c.is_zero.ensures c.if-is_zero.true))

pub unreachable-requires : goal.unreachable-requires
unreachable-requires c =
    let some = words_some (members 256 c.args.low.now) (members 256 c.args.high.now) c.requires.low_some c.requires.high_some in
    omega (arith, some, ap length c.words_of.ensures, ap length c.as_slice.ensures.value, c.in-None.ensures.none.0 refl)
