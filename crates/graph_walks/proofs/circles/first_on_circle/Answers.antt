use Rattle.std.proofs.Common.{ℕ, ◌<◌, get_or, length, subst, sym, arith}
use Rattle.std.proofs.lemmas.Option.{get_or_from_slice_get}
use Rattle.graph_walks.specs.Ways.{IsClosing, LeadsInto}
use Rattle.graph_walks.proofs.CircleLemmas.{closing_at, closing_more, closing_within, least_closing, not_closing}
use Rattle.graph_walks.proofs.ListLemmas.{read_at, value_at}
use Rattle.graph_walks.proofs.WalkLemmas.{edge_within}
use Rattle.graph_walks.proofs.circles.first_on_circle.Goals as goal
use Rattle.graph_walks.proofs.circles.first_on_circle.Goals.{in-Done+else-leads_into, in_default}

pub leads_into-requires-clause-stop : goal.leads_into-requires-clause-stop
leads_into-requires-clause-stop c = λ k d small.
    let graph = c.args.graph.now in
    let v = c.loop-vertex.vertex in
    let row = c.index-graph-vertex.result in
    subst (λ n. get_or c.deref.result.now k d < n) (sym c.requires.stop)
    (edge_within graph v row c.requires.graph (read_at graph v row c.loop-vertex-test.true c.index-graph-vertex.is) c.deref.result.now c.deref.ensures.value k d small)

pub leads_into-requires-clause-marks : goal.leads_into-requires-clause-marks
leads_into-requires-clause-marks c = λ k d small.
    let graph = c.args.graph.now in
    let v = c.loop-vertex.vertex in
    let row = c.index-graph-vertex.result in
    subst (λ n. get_or c.deref.result.now k d < n) (sym c.requires.marks)
    (edge_within graph v row c.requires.graph (read_at graph v row c.loop-vertex-test.true c.index-graph-vertex.is) c.deref.result.now c.deref.ensures.value k d small)

pub returns-then-leads_into : goal.returns-then-leads_into
returns-then-leads_into c =
    let graph = c.args.graph.now in
    let stop = c.args.stop.now in
    let marks = c.args.marks.now in
    let v = c.loop-vertex.vertex in
    let row = c.index-graph-vertex.result in
    let found = c.if-leads_into.ensures in
    let at = read_at graph v row c.loop-vertex-test.true c.index-graph-vertex.is in
    let done = value_at marks v _ _ (omega (arith, c.requires.marks, c.loop-vertex-test.true)) c.in-Done.is in
    let into = subst (λ xs. LeadsInto stop marks c.in-Done.component xs found.0) c.deref.ensures.value found.1 in
    (closing_at graph stop marks v c.in-Done.component row at done found.0 into, least_closing graph stop marks v c.loop-vertex.invariant)

pub loop-vertex-preserved : goal.loop-vertex-preserved
loop-vertex-preserved c =
    let graph = c.args.graph.now in
    let stop = c.args.stop.now in
    let marks = c.args.marks.now in
    let v = c.loop-vertex.vertex in
    let inside : v < length marks = omega (arith, c.requires.marks, c.loop-vertex-test.true) in
    elim c.match-marks-vertex.branch [
      | in-Done+else-leads_into w ↦
          let row = w.index-graph-vertex.result in
          let component = w.in-Done.component in
          let at = read_at graph v row c.loop-vertex-test.true w.index-graph-vertex.is in
          let done = value_at marks v _ _ inside w.in-Done.is in
          closing_more graph stop marks v (not_closing graph stop marks v component row at done
          (λ (u : ℕ) (into : LeadsInto stop marks component row.items u).
          w.if-leads_into.ensures u (subst (λ xs. LeadsInto stop marks component xs u) (sym w.deref.ensures.value) into))) c.loop-vertex.invariant
      | in_default w ↦
          closing_more graph stop marks v (λ (closing : IsClosing graph stop marks v). w.in_default.not-Done closing.component
          (get_or_from_slice_get marks v _ _ closing.is)) c.loop-vertex.invariant
    ]

pub returns : goal.returns
returns c = λ v closing. c.loop-vertex.invariant v (omega (arith, closing_within c.args.graph.now c.args.stop.now c.args.marks.now v closing, c.loop-vertex-test.false)) closing
