use Rattle.std.proofs.Common.{◌∙◌, ap, true, length, set, subst, sym}
use Rattle.graph_walks.specs.Graphs.{IsGraph}
use Rattle.graph_walks.specs.Reached.{AreDistances}
use Rattle.graph_walks.proofs.CircleLemmas.{distances_to_it, none_marked, one_marked, turned_formed}
use Rattle.graph_walks.proofs.ListLemmas.{if_ok_then}
use Rattle.graph_walks.proofs.circles.distances_to.Goals as goal

pub distances-requires-clause-graph : goal.distances-requires-clause-graph
distances-requires-clause-graph c =
    subst IsGraph (sym c.deref.ensures.value) (turned_formed c.args.graph.now c.args.stop.now c.in_ok-turned.turned.items c.in_ok-turned.ensures)

pub returns : goal.returns
returns c =
    let graph = c.args.graph.now in
    let stop = c.args.stop.now in
    let v = c.args.vertex in
    let n = length graph in
    let turned = c.in_ok-turned.turned.items in
    let from = c.deref-2.result.now in
    let nowhere = c.deref-3.result.now in
    let marked = one_marked n v from c.requires.vertex
    (c.deref-2.ensures.value ∙ ap (λ xs. set xs v true) (c.in_ok-from.ensures.items_if_clones_equal (λ y copy. copy))) in
    let none = none_marked n nowhere (c.deref-3.ensures.value ∙ c.in_ok-nowhere.ensures.items_if_clones_equal (λ y copy. copy)) in
    if_ok_then c.distances.result c.distances.ensures (λ found are.
    distances_to_it graph stop turned from nowhere c.in_ok-turned.ensures v marked none found.items
    (subst (λ xs. AreDistances xs from nowhere found.items) c.deref.ensures.value are))
