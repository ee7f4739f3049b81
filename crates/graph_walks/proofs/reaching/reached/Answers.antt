use Rattle.std.proofs.Common.{map, ap, ◌∙◌, take_all}
use Rattle.std.specs.Prelude.{is_some}
use Rattle.graph_walks.proofs.LevelLemmas.{marks_of}
use Rattle.graph_walks.proofs.reaching.reached.Goals as goal

pub returns : goal.returns
returns c =
    let distances = c.in_ok-distances.distances.items in
    let items = c.deref-distance-items.result.now in
    let all = c.loop-distance.invariant ∙ ap (map is_some) (take_all c.loop-distance.distance-index items c.loop-distance-test.false ∙ c.deref-distance-items.ensures.value) in
    marks_of c.args.graph.now c.args.from.now c.args.stop.now distances c.loop-distance.marks.items c.requires.graph c.requires.from c.in_ok-distances.ensures all
