use Rattle.graph_walks.proofs.TurnLemmas.{empty_more}
use Rattle.graph_walks.proofs.turning.empty.Goals as goal

pub loop-row-preserved : goal.loop-row-preserved
loop-row-preserved c = empty_more c.loop-row._row c.loop-row.graph.items c.push.new.self.items c.new.result c.new.ensures.items c.in_ok-push.ensures.items c.loop-row.invariant
