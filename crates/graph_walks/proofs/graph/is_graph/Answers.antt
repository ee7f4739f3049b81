use Rattle.std.proofs.Common.{length, refl, subst, inl, inr, arith}
use Rattle.std.specs.Prelude.{IsTrue}
use Rattle.std.proofs.lemmas.Bool.{cases_eq}
use Rattle.std.proofs.lemmas.Option.{slice_get_within}
use Rattle.graph_walks.specs.Graphs.{HasEdge}
use Rattle.graph_walks.proofs.ListLemmas.{read_at}
use Rattle.graph_walks.proofs.WalkLemmas.{edge_within, edges_below}
use Rattle.graph_walks.proofs.graph.is_graph.Goals as goal

pub returns-then-not-are_below : goal.returns-then-not-are_below
returns-then-not-are_below c = (
  λ holds. absurd (cc),
  λ formed.
      let graph = c.args.graph.now in
      let n = c.loop-row.row-index in
      let row = c.row-item.result in
      subst IsTrue c.if-not-are_below.true
      (c.are_below.ensures.1 (edge_within graph n row formed (read_at graph n row c.loop-row-test.true c.row-item.is) c.deref.result.now c.deref.ensures.value)),
)

pub loop-row-preserved : goal.loop-row-preserved
loop-row-preserved c = λ a b small edge.
    let graph = c.args.graph.now in
    let n = c.loop-row.row-index in
    let row = c.row-item.result in
    elim (cases_eq a n) [
      | inr other ↦ c.loop-row.invariant a b (omega (arith, small, other)) edge
      | inl same ↦
          edges_below graph n b row (length graph) (read_at graph n row c.loop-row-test.true c.row-item.is) c.deref.result.now c.deref.ensures.value
          (c.are_below.ensures.0 c.if-not-are_below.false) (subst (λ v. HasEdge graph v b) same edge)
    ]

pub returns : goal.returns
returns c = (
  λ holds. λ a b edge. let (row, at, h) = edge in c.loop-row.invariant a b (omega (arith, slice_get_within c.args.graph.now a row at, c.loop-row-test.false)) edge,
  λ formed. refl,
)
