use Rattle.std.proofs.Common.{◌≡◌, ◌∙◌, ◌≤◌, ◌+◌, suc, ap, sym, subst, arith, length, take, take_all, slice_index_or, None, true, false}
use Rattle.book_rules.specs.Same.{same_unit}
use Rattle.round_core.specs.Turns.{index_out}
use Rattle.round_core.proofs.Cases.{get-index}
use Rattle.round_core.proofs.TurnsLemmas.{index-here, no-index-yet}
use Rattle.round_core.proofs.turns.index_of.Goals as goal

pub returns-then-same_unit-clause-index : goal.returns-then-same_unit-clause-index
returns-then-same_unit-clause-index c =
    let e = c.index-out-index.result in
    let same : same_unit c.args.unit.now (slice_index_or c.args.out.now c.loop-index.index e).0 ≡ true = sym c.same_unit.ensures ∙ c.if-same_unit.true in
    sym (index-here c.args.out.now c.args.unit.now c.loop-index.index e (get-index _ _ e c.loop-index-test.true c.index-out-index.is) c.loop-index.invariant
    (ap (λ t. same_unit c.args.unit.now t.0) c.index-out-index.is ∙ same))

pub loop-index-preserved : goal.loop-index-preserved
loop-index-preserved c =
    let out = c.args.out.now in
    let e = c.index-out-index.result in
    let other : same_unit c.args.unit.now (slice_index_or out c.loop-index.index e).0 ≡ false = sym c.same_unit.ensures ∙ c.if-same_unit.false in
    let up : suc c.loop-index.index ≡ c.loop-index.index + 1 = omega arith in
    subst (λ k. index_out (take k out) c.args.unit.now ≡ None) up
    (no-index-yet out c.args.unit.now c.loop-index.index e (get-index _ _ e c.loop-index-test.true c.index-out-index.is) c.loop-index.invariant
    (ap (λ t. same_unit c.args.unit.now t.0) c.index-out-index.is ∙ other))

pub returns-clause-index : goal.returns-clause-index
returns-clause-index c =
    let out = c.args.out.now in
    let t = c.loop-index-test.false in
    let short : length out ≤ c.loop-index.index = omega arith in
    sym (ap (λ l. index_out l c.args.unit.now) (sym (take_all c.loop-index.index out short)) ∙ c.loop-index.invariant)
