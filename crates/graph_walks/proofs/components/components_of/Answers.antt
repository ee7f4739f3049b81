use Rattle.std.proofs.Common.{◌+◌, ◌∙◌, Some, ap, length, refl, subst, sym, arith}
use Rattle.graph_walks.proofs.ListLemmas.{read_at}
use Rattle.graph_walks.proofs.SearchLemmas.{IsExploredTo, explored_all, explored_known, explored_more, explored_none, not_unseen}
use Rattle.graph_walks.proofs.components.components_of.Goals as goal
use Rattle.graph_walks.proofs.components.components_of.Goals.{in-Unseen+in_ok-explore, in_default}

pub loop-vertex-init : goal.loop-vertex-init
loop-vertex-init c = explored_none c.args.graph.now c.args.stop.now (length c.args.graph.now) c.in_ok-search.search refl c.in_ok-search.ensures

pub explore-requires-clause-unseen : goal.explore-requires-clause-unseen
explore-requires-clause-unseen c =
    let s = c.loop-vertex.search in
    read_at s.marks.items c.loop-vertex.vertex c.index.result.now (omega (arith, c.loop-vertex-test.true, c.loop-vertex.invariant.search.placed.sized)) c.index.ensures
    ∙ ap (λ m. Some m) c.in-Unseen.is

pub loop-vertex-preserved : goal.loop-vertex-preserved
loop-vertex-preserved c =
    let graph = c.args.graph.now in
    let stop = c.args.stop.now in
    let s = c.loop-vertex.search in
    let v = c.loop-vertex.vertex in
    elim c.match-index.branch [
      | in-Unseen+in_ok-explore w ↦
          subst (IsExploredTo graph stop (v + 1)) (sym w.search-is) (explored_more graph stop v s w.explore.new.self c.loop-vertex.invariant w.in_ok-explore.ensures)
      | in_default w ↦
          let at = read_at s.marks.items v c.index.result.now (omega (arith, c.loop-vertex-test.true, c.loop-vertex.invariant.search.placed.sized)) c.index.ensures in
          subst (IsExploredTo graph stop (v + 1)) (sym w.search-is)
          (explored_known graph stop v s c.loop-vertex.invariant (c.index.result.now, at, not_unseen c.index.result.now w.in_default.not-Unseen))
    ]

pub returns : goal.returns
returns c = explored_all c.args.graph.now c.args.stop.now c.loop-vertex.vertex c.loop-vertex.search c.loop-vertex-test.false c.loop-vertex.invariant _ refl refl
