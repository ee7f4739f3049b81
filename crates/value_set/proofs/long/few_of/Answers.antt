use Rattle.std.proofs.Common.{arith, ap, ◌+◌, List, ℕ, length}
use Rattle.value_set.specs.Form.{put}
use Rattle.value_set.proofs.Gaps.{many_so_far, one_more}
use Rattle.value_set.proofs.long.few_of.Goals as goal

pub returns-then-len-gt-LONGEST-clause-many : goal.returns-then-len-gt-LONGEST-clause-many
returns-then-len-gt-LONGEST-clause-many g c = λ _.
    let more = one_more g.N.Number.number c.args.list.now c.loop-number.number-index c.number.result c.number-item.result c.loop-number-test.true c.number-item.is c.number.ensures in
    let whole = many_so_far g.N.Number.number (c.loop-number.number-index + 1) c.args.list.now in
    omega (arith, ap length more, ap length c.put.ensures.items, ap (λ (xs : List ℕ). length (put c.number.result xs)) c.loop-number.invariant.items, whole)
