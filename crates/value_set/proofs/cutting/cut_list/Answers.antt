use Rattle.std.proofs.Common.{arith, ap, length}
use Rattle.value_set.proofs.Members.{Ascends-at}
use Rattle.value_set.proofs.cutting.cut_list.Goals as goal

pub above-requires-clause-below : goal.above-requires-clause-below
above-requires-clause-below c = rw c.as_slice-value-items.ensures.numbers
    (Ascends-at 0 c.args.modulus c.loop-value.value-index c.args.values.now c.requires.normal.2 (omega (arith, ap length c.as_slice-value-items.ensures.numbers))).1
