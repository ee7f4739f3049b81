use Rattle.std.proofs.Common.{◌≡◌, ◌∙◌, ◌≤◌, ◌+◌, suc, ap, sym, subst, arith, length, take, take_all, slice_index_or, None, true, false}
use Rattle.book_rules.specs.Machine.{place_of}
use Rattle.round_core.specs.Raise.{held_rows}
use Rattle.book_rules.specs.Same.{same_node}
use Rattle.round_core.specs.declared.raised.Risen.{Risen}
use Rattle.round_core.proofs.Cases.{get-index}
use Rattle.round_core.proofs.RaisedLemmas.{place-here, no-place-yet}
use Rattle.round_core.proofs.raised.index_of.Goals as goal

pub returns-then-same_node-clause-index : goal.returns-then-same_node-clause-index
returns-then-same_node-clause-index g c =
    let r = c.index-rows-index.result in
    let same : same_node c.args.node.now (slice_index_or c.args.rows.now c.loop-index.index r).node ≡ true = sym c.same_node.ensures ∙ c.if-same_node.true in
    sym (place-here c.args.rows.now c.args.node.now c.loop-index.index r (get-index _ _ r c.loop-index-test.true c.index-rows-index.is) c.loop-index.invariant
    (ap (λ (t : Risen _). same_node c.args.node.now t.node) c.index-rows-index.is ∙ same))

pub loop-index-preserved : goal.loop-index-preserved
loop-index-preserved g c =
    let rows = c.args.rows.now in
    let r = c.index-rows-index.result in
    let other : same_node c.args.node.now (slice_index_or rows c.loop-index.index r).node ≡ false = sym c.same_node.ensures ∙ c.if-same_node.false in
    let up : suc c.loop-index.index ≡ c.loop-index.index + 1 = omega arith in
    subst (λ k. place_of (held_rows (take k rows)) c.args.node.now ≡ None) up
    (no-place-yet rows c.args.node.now c.loop-index.index r (get-index _ _ r c.loop-index-test.true c.index-rows-index.is) c.loop-index.invariant
    (ap (λ (t : Risen _). same_node c.args.node.now t.node) c.index-rows-index.is ∙ other))

pub returns-clause-index : goal.returns-clause-index
returns-clause-index g c =
    let rows = c.args.rows.now in
    let t = c.loop-index-test.false in
    let short : length rows ≤ c.loop-index.index = omega arith in
    sym (ap (λ t. place_of (held_rows t) c.args.node.now) (sym (take_all c.loop-index.index rows short)) ∙ c.loop-index.invariant)
