use Rattle.std.proofs.Common.{refl}
use Rattle.std.proofs.lemmas.Option.{slice_get-get_or}
use Rattle.graph_walks.proofs.TurnLemmas.{adds}
use Rattle.graph_walks.proofs.turning.add.Goals as goal

pub returns : goal.returns
returns c =
    let graph = c.args.graph.now in
    adds c.args.from c.args.to graph _ _ c.push.new.self (slice_get-get_or graph c.args.from c.index-graph-from.result c.requires) refl c.in_ok-push.ensures.items
