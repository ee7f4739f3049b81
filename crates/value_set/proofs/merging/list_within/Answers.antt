use Rattle.std.proofs.Common.{arith, ◌∙◌, sym, drop}
use Rattle.value_set.proofs.Merges.{sub_tells, sub_refused, sub_found, sub_passed, sub_done, ended}
use Rattle.value_set.proofs.merging.list_within.Goals as goal
use Rattle.value_set.proofs.merging.list_within.Goals.{then-smaller-found-2, else-smaller-found-2}

pub returns-then-found-smaller : goal.returns-then-found-smaller
returns-then-found-smaller c = sub_tells 65536 c.args.smaller.now c.args.larger.now _ c.requires.smaller_ascends c.requires.larger_ascends
    (sym (sub_done c.args.smaller.now (drop c.loop-number.number-index c.args.larger.now) c.loop-number.found (omega arith)) ∙ c.loop-number.invariant.rest)

pub returns-then-smaller-found : goal.returns-then-smaller-found
returns-then-smaller-found c = sub_tells 65536 c.args.smaller.now c.args.larger.now _ c.requires.smaller_ascends c.requires.larger_ascends
    (sym (sub_refused c.args.smaller.now c.args.larger.now c.loop-number.found c.loop-number.number-index (omega arith) c.loop-number-test.true c.if-smaller-found.true)
    ∙ c.loop-number.invariant.rest)

pub loop-number-preserved : goal.loop-number-preserved
loop-number-preserved c = elim c.if-smaller-found-2.branch [
  | then-smaller-found-2 w ↦ record {
    there = omega (arith, w.found-is);
    rest = rw w.found-is (sub_found c.args.smaller.now c.args.larger.now c.loop-number.found c.loop-number.number-index (omega arith) c.loop-number-test.true w.if-smaller-found-2.true
        ∙ c.loop-number.invariant.rest);
  }
  | else-smaller-found-2 w ↦ record {
    there = omega (arith, w.found-is);
    rest = rw w.found-is (sub_passed c.args.smaller.now c.args.larger.now c.loop-number.found c.loop-number.number-index (omega arith) c.loop-number-test.true
        (omega (arith, w.if-smaller-found-2.false, c.if-smaller-found.false)) ∙ c.loop-number.invariant.rest);
  }
]

pub returns : goal.returns
returns c = sub_tells 65536 c.args.smaller.now c.args.larger.now _ c.requires.smaller_ascends c.requires.larger_ascends
    (ended c.args.smaller.now c.args.larger.now c.loop-number.found c.loop-number.number-index c.loop-number.invariant.there c.loop-number-test.false
    ∙ c.loop-number.invariant.rest)
