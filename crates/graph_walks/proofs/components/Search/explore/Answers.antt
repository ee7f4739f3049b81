use Rattle.graph_walks.proofs.SearchLemmas.{explores_first}
use Rattle.graph_walks.proofs.components.Search.explore.Goals as goal

pub loop-start-init : goal.loop-start-init
loop-start-init c =
    explores_first c.args.graph.now c.args.stop.now c.args.vertex c.args.self.now c.hold.new.self c.requires.search c.requires.ended c.requires.unseen c.in_ok-hold.ensures
