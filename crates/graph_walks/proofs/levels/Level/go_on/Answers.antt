use Rattle.std.proofs.Common.{◌+◌, ◌<◌, take, get_or, length, subst, sym, ◌∙◌}
use Rattle.std.specs.Prelude.{Contains}
use Rattle.std.proofs.lemmas.Option.{slice_get-get_or}
use Rattle.graph_walks.specs.Levels.{IsLedFrom, IsSpread}
use Rattle.graph_walks.proofs.LevelLemmas.{spread_from_next, spread_from_stop}
use Rattle.graph_walks.proofs.ListLemmas.{read_at, value_at}
use Rattle.graph_walks.proofs.WalkLemmas.{edge_within}
use Rattle.graph_walks.proofs.levels.Level.go_on.Goals as goal
use Rattle.graph_walks.proofs.levels.Level.go_on.Goals.{then-not-stop-vertex+in_ok-lead_along, else-not-stop-vertex}

pub lead_along-requires : goal.lead_along-requires
lead_along-requires c = λ k d small.
    let graph = c.args.graph.now in
    let n = c.loop-vertex.vertex-index in
    let at = get_or c.args.front.now n 0 in
    let here = read_at graph at c.index-graph-vertex.result (c.requires.front n 0 c.loop-vertex-test.true) c.index-graph-vertex.is in
    subst (λ m. get_or c.deref.result.now k d < m) (sym (c.loop-vertex.invariant.sized ∙ c.requires.sized))
    (edge_within graph at c.index-graph-vertex.result c.requires.graph here c.deref.result.now c.deref.ensures.value k d small)

pub loop-vertex-preserved : goal.loop-vertex-preserved
loop-vertex-preserved c =
    let graph = c.args.graph.now in
    let stop = c.args.stop.now in
    let front = c.args.front.now in
    let n = c.loop-vertex.vertex-index in
    let distance = c.args.distance in
    let at = get_or front n 0 in
    let is = slice_get-get_or front n 0 c.loop-vertex-test.true in
    let within : at < length graph = c.requires.front n 0 c.loop-vertex-test.true in
    let inside = subst (λ m. at < m) (sym c.requires.stop) within in
    let so_far = IsSpread (IsLedFrom graph stop (take (n + 1) front)) distance c.args.self.now in
    elim c.if-not-stop-vertex.branch [
      | then-not-stop-vertex+in_ok-lead_along w ↦
          let row = w.index-graph-vertex.result in
          subst so_far (sym w.self-is) (spread_from_next graph stop c.args.self.now c.loop-vertex.self w.lead_along.new.self distance n front at row is
          (read_at graph at row within w.index-graph-vertex.is) (value_at stop at _ _ inside w.if-not-stop-vertex.true) c.loop-vertex.invariant
          (subst (λ xs. IsSpread (Contains xs) distance c.loop-vertex.self w.lead_along.new.self) w.deref.ensures.value w.in_ok-lead_along.ensures))
      | else-not-stop-vertex w ↦
          subst so_far (sym w.self-is) (spread_from_stop graph stop c.args.self.now c.loop-vertex.self distance n front at is (value_at stop at _ _ inside w.if-not-stop-vertex.false) c.loop-vertex.invariant)
    ]
