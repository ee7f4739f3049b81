use Rattle.std.proofs.Common.{arith, length, length-take-le, sym, ap, subst}
use Rattle.value_set.specs.Form.{Ascends}
use Rattle.value_text.proofs.FormLemmas.{ascends_below}
use Rattle.value_text.proofs.sets.bytes_in.Goals as goal

pub overflow_cast-value : goal.overflow_cast-value
overflow_cast-value c =
    let ascends = subst (Ascends 0 256) (sym c.as_slice-value-items.ensures.numbers) c.requires.ascends in
    omega (arith, ascends_below 0 256 c.as_slice-value-items.result.now c.loop-value.value-index ascends c.loop-value-test.true)

pub push-requires : goal.push-requires
push-requires c =
    let most = ap length c.as_slice-value-items.ensures.numbers in
    omega (
      arith,
      most,
      c.requires.few,
      c.loop-value-test.true,
      ap length c.loop-value.invariant,
      length-take-le c.loop-value.value-index
          c.as_slice-value-items.result.now,
    )
