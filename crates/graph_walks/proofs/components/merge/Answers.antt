use Rattle.std.proofs.Common.{◌≡◌, ◌-◌, Some, length, subst, sym}
use Rattle.std.specs.Prelude.{slice_get}
use Rattle.graph_walks.proofs.OrderLemmas.{merged_up_to, merges_more, taken_by}
use Rattle.graph_walks.proofs.components.merge.Goals as goal

pub loop-bound-preserved : goal.loop-bound-preserved
loop-bound-preserved c =
    let bounds = c.loop-bound.bounds in
    let last = c.in-Some.bound.now in
    let at = subst (λ xs. Some last ≡ slice_get xs (length xs - 1)) c.deref.ensures.value c.in-Some.ensures.value in
    merges_more c.args.place c.args.bounds.now.items bounds.items c.pop.new.self.items last c.loop-bound.invariant
    (taken_by bounds.items c.pop.new.self.items bounds.len last bounds.ok.0 c.loop-bound.invariant.ascending at c.pop.ensures.rest) c.if-bound-place.false

pub returns-then-bound-place : goal.returns-then-bound-place
returns-then-bound-place c =
    let bounds = c.loop-bound.bounds in
    let last = c.in-Some.bound.now in
    let at = subst (λ xs. Some last ≡ slice_get xs (length xs - 1)) c.deref.ensures.value c.in-Some.ensures.value in
    merged_up_to c.args.place c.args.bounds.now.items bounds.items last c.loop-bound.invariant (sym at) c.if-bound-place.true
