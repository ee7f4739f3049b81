use Rattle.std.proofs.Common.{◌<◌, get_or, subst, sym}
use Rattle.graph_walks.specs.Ways.{IsNearest}
use Rattle.graph_walks.proofs.ListLemmas.{read_at}
use Rattle.graph_walks.proofs.WalkLemmas.{edge_within}
use Rattle.graph_walks.proofs.circles.nearest_from.Goals as goal

pub nearest-requires-clause-stop : goal.nearest-requires-clause-stop
nearest-requires-clause-stop c = λ k d small.
    let graph = c.args.graph.now in
    let v = c.args.vertex in
    let row = c.index-graph-vertex.result in
    subst (λ n. get_or c.deref.result.now k d < n) (sym c.requires.stop)
    (edge_within graph v row c.requires.graph (read_at graph v row c.requires.vertex c.index-graph-vertex.is) c.deref.result.now c.deref.ensures.value k d small)

pub nearest-requires-clause-distances : goal.nearest-requires-clause-distances
nearest-requires-clause-distances c = λ k d small.
    let graph = c.args.graph.now in
    let v = c.args.vertex in
    let row = c.index-graph-vertex.result in
    subst (λ n. get_or c.deref.result.now k d < n) (sym c.requires.distances)
    (edge_within graph v row c.requires.graph (read_at graph v row c.requires.vertex c.index-graph-vertex.is) c.deref.result.now c.deref.ensures.value k d small)

pub returns : goal.returns
returns c =
    let graph = c.args.graph.now in
    let v = c.args.vertex in
    let row = c.index-graph-vertex.result in (
      row,
      read_at graph v row c.requires.vertex c.index-graph-vertex.is,
      subst (λ xs. IsNearest c.args.stop.now c.args.distances.now xs c.nearest.result) c.deref.ensures.value c.nearest.ensures,
    )
