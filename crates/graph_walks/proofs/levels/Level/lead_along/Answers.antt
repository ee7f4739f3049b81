use Rattle.std.proofs.lemmas.Option.{slice_get-get_or}
use Rattle.graph_walks.proofs.LevelLemmas.{spread_to_next}
use Rattle.graph_walks.proofs.levels.Level.lead_along.Goals as goal

pub loop-vertex-preserved : goal.loop-vertex-preserved
loop-vertex-preserved c =
    let n = c.loop-vertex.vertex-index in
    spread_to_next c.args.self.now c.loop-vertex.self c.lead_to.new.self c.args.distance n c.args.row.now _ (slice_get-get_or c.args.row.now n 0 c.loop-vertex-test.true)
    c.loop-vertex.invariant c.in_ok-lead_to.ensures
