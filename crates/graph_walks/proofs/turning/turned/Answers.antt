use Rattle.std.proofs.Common.{◌≡◌, ◌+◌, ◌<◌, ◌∙◌, ap, get_or, length, subst, sym}
use Rattle.std.proofs.lemmas.List.{with_items_is}
use Rattle.graph_walks.specs.Turned.{IsTurnedRow}
use Rattle.graph_walks.proofs.ListLemmas.{read_at}
use Rattle.graph_walks.proofs.TurnLemmas.{AreTurnedTo, turned_all, turned_more, turned_none}
use Rattle.graph_walks.proofs.WalkLemmas.{edge_within}
use Rattle.graph_walks.proofs.turning.turned.Goals as goal

pub loop-from-init : goal.loop-from-init
loop-from-init c = turned_none c.args.graph.now c.args.stop.now c.in_ok-turned.turned.items c.in_ok-turned.ensures

pub turn-requires-clause-turned : goal.turn-requires-clause-turned
turn-requires-clause-turned c = λ k d small.
    let graph = c.args.graph.now in
    let from = c.loop-from.from in
    let row = c.index-graph-from.result in
    subst (λ n. get_or c.deref.result.now k d < n) (sym (ap length c.deref_mut.ensures.value ∙ c.loop-from.invariant.sized))
    (edge_within graph from row c.requires.graph (read_at graph from row c.loop-from-test.true c.index-graph-from.is) c.deref.result.now c.deref.ensures.value k d small)

pub turn-requires-clause-stop : goal.turn-requires-clause-stop
turn-requires-clause-stop c = λ k d small.
    let graph = c.args.graph.now in
    let from = c.loop-from.from in
    let row = c.index-graph-from.result in
    subst (λ n. get_or c.deref.result.now k d < n) (sym c.requires.stop)
    (edge_within graph from row c.requires.graph (read_at graph from row c.loop-from-test.true c.index-graph-from.is) c.deref.result.now c.deref.ensures.value k d small)

pub loop-from-preserved : goal.loop-from-preserved
loop-from-preserved c =
    let graph = c.args.graph.now in
    let stop = c.args.stop.now in
    let from = c.loop-from.from in
    let row = c.index-graph-from.result in
    let old = c.loop-from.turned in
    let new = c.turn.new.turned in
    let turned = subst (λ xs. IsTurnedRow stop from row.items xs new) c.deref_mut.ensures.value
    (subst (λ xs. IsTurnedRow stop from xs c.deref_mut.result.now new) c.deref.ensures.value c.in_ok-turn.ensures) in
    let long : length new ≡ old.len = turned.sized ∙ sym old.ok.0 in
    subst (AreTurnedTo graph stop (from + 1)) (sym (with_items_is old new long))
    (turned_more graph stop from row old.items new (read_at graph from row c.loop-from-test.true c.index-graph-from.is) c.loop-from.invariant turned)

pub returns : goal.returns
returns c = turned_all c.args.graph.now c.args.stop.now c.loop-from.from c.loop-from.turned.items c.loop-from-test.false c.loop-from.invariant
