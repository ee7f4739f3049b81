use Rattle.std.proofs.Common.{arith, ap, ◌∙◌, ◌≤◌, sym, length, ◌++◌, drop, List, ℕ}
use Rattle.std.proofs.lemmas.List.{take_rest}
use Rattle.value_set.specs.Merging.{if_few}
use Rattle.value_set.proofs.Merges.{took_first, took_second, took_both, too_many, second_done, first_done, found_few, one_longer}
use Rattle.value_set.proofs.merging.few_together.Goals as goal
use Rattle.value_set.proofs.merging.few_together.Goals.{then-loop-at-test+else-other-second, else-loop-at-test}

pub returns-then-len-eq-LONGEST : goal.returns-then-len-eq-LONGEST
returns-then-len-eq-LONGEST c = too_many 65536 c.loop-at.few c.args.first.now c.args.second.now c.loop-at.at c.loop-at.other c.requires.first_ascends c.requires.second_ascends
    c.loop-at-test.true (omega arith) c.loop-at.invariant.rest

pub loop-at-preserved-then-one-two : goal.loop-at-preserved-then-one-two
loop-at-preserved-then-one-two c = record {
  first_there = omega arith;
  second_there = omega arith;
  room = let long = one_longer c.loop-at.few c.push.new.self _ c.push.ensures in omega (arith, long);
  rest = rw c.push.ensures (took_first c.loop-at.few c.args.first.now c.args.second.now c.loop-at.at c.loop-at.other c.loop-at-test.true c.if-other-second.true c.if-one-two.true
      ∙ c.loop-at.invariant.rest);
}

pub loop-at-preserved-then-two-one : goal.loop-at-preserved-then-two-one
loop-at-preserved-then-two-one c = record {
  first_there = omega arith;
  second_there = omega arith;
  room = let long = one_longer c.loop-at.few c.push-then-two-one.new.self _ c.push-then-two-one.ensures in omega (arith, long);
  rest = rw c.push-then-two-one.ensures (took_second c.loop-at.few c.args.first.now c.args.second.now c.loop-at.at c.loop-at.other c.loop-at-test.true c.if-other-second.true
      c.if-two-one.true ∙ c.loop-at.invariant.rest);
}

pub loop-at-preserved : goal.loop-at-preserved
loop-at-preserved c = record {
  first_there = omega arith;
  second_there = omega arith;
  room = let long = one_longer c.loop-at.few c.push-else-two-one.new.self _ c.push-else-two-one.ensures in omega (arith, long);
  rest = rw c.push-else-two-one.ensures (took_both c.loop-at.few c.args.first.now c.args.second.now c.loop-at.at c.loop-at.other c.loop-at-test.true c.if-other-second.true
      (omega (arith, c.if-one-two.false, c.if-two-one.false)) ∙ c.loop-at.invariant.rest);
}

pub returns-then-at-first : goal.returns-then-at-first
returns-then-at-first c =
    let over : length c.args.second.now ≤ c.loop-at.other = elim c.loop-at-test.branch [
      | then-loop-at-test+else-other-second w ↦ w.if-other-second.false
      | else-loop-at-test w ↦ absurd (omega (arith, w.loop-at-test.false, c.if-at-first.true))
    ] in
    c.with_all.ensures ∙ ap (λ (zs : List ℕ). if_few (c.loop-at.few ++ zs)) (take_rest c.args.first.now c.loop-at.at)
    ∙ found_few 65536 c.args.first.now c.args.second.now (c.loop-at.few ++ drop c.loop-at.at c.args.first.now) c.requires.first_ascends c.requires.second_ascends
    (sym (second_done c.loop-at.few c.args.first.now c.args.second.now c.loop-at.at c.loop-at.other over) ∙ c.loop-at.invariant.rest)

pub returns : goal.returns
returns c = c.with_all-2.ensures ∙ ap (λ (zs : List ℕ). if_few (c.loop-at.few ++ zs)) (take_rest c.args.second.now c.loop-at.other)
    ∙ found_few 65536 c.args.first.now c.args.second.now (c.loop-at.few ++ drop c.loop-at.other c.args.second.now) c.requires.first_ascends c.requires.second_ascends
    (sym (first_done c.loop-at.few c.args.first.now c.args.second.now c.loop-at.at c.loop-at.other c.if-at-first.false) ∙ c.loop-at.invariant.rest)
