use Rattle.std.proofs.Common.{◌≡◌, ℕ, ◌*◌, ◌<◌, ◌≤◌, ◌∙◌, Some, ap, get_or, length, set, take, subst, sym, arith}
use Rattle.std.specs.Prelude.{Contains, slice_get}
use Rattle.std.proofs.lemmas.Option.{slice_get-get_or}
use Rattle.graph_walks.specs.Graphs.{Enters}
use Rattle.graph_walks.specs.Greatest.{IsGreatest, left_behind}
use Rattle.graph_walks.proofs.LegLemmas.{AreKnownTo, cost_small, greatest_small, if_some, known_all, known_more, leads_before, order_within}
use Rattle.graph_walks.proofs.ListLemmas.{read_at}
use Rattle.graph_walks.proofs.WalkLemmas.{edge_within}
use Rattle.graph_walks.proofs.legs.longest.Goals as goal

pub offset_bounds-graph-vertex : goal.offset_bounds-graph-vertex
offset_bounds-graph-vertex c =
    let inside = order_within c.args.graph.now c.args.stop.now c.in_ok-order.field-0 c.deref-vertex-items.result.now c.loop-vertex.vertex-index c.in_ok-order.ensures
    c.deref-vertex-items.ensures.value c.loop-vertex-test.true in
    omega (arith, inside)

pub bounds-graph-vertex : goal.bounds-graph-vertex
bounds-graph-vertex c =
    order_within c.args.graph.now c.args.stop.now c.in_ok-order.field-0 c.deref-vertex-items.result.now c.loop-vertex.vertex-index c.in_ok-order.ensures
    c.deref-vertex-items.ensures.value c.loop-vertex-test.true

pub greatest_behind-behind-requires-clause-stop : goal.greatest_behind-behind-requires-clause-stop
greatest_behind-behind-requires-clause-stop c = λ k d small.
    let graph = c.args.graph.now in
    let v = get_or c.deref-vertex-items.result.now c.loop-vertex.vertex-index 0 in
    let row = c.index-graph-vertex.result in
    let inside = order_within graph c.args.stop.now c.in_ok-order.field-0 c.deref-vertex-items.result.now c.loop-vertex.vertex-index c.in_ok-order.ensures
    c.deref-vertex-items.ensures.value c.loop-vertex-test.true in
    subst (λ n. get_or c.deref.result.now k d < n) (sym c.requires.stop)
    (edge_within graph v row c.requires.graph (read_at graph v row inside c.index-graph-vertex.is) c.deref.result.now c.deref.ensures.value k d small)

pub greatest_behind-behind-requires-clause-longest : goal.greatest_behind-behind-requires-clause-longest
greatest_behind-behind-requires-clause-longest c = λ k d small.
    let graph = c.args.graph.now in
    let v = get_or c.deref-vertex-items.result.now c.loop-vertex.vertex-index 0 in
    let row = c.index-graph-vertex.result in
    let inside = order_within graph c.args.stop.now c.in_ok-order.field-0 c.deref-vertex-items.result.now c.loop-vertex.vertex-index c.in_ok-order.ensures
    c.deref-vertex-items.ensures.value c.loop-vertex-test.true in
    subst (λ n. get_or c.deref.result.now k d < n) (sym (ap length c.deref-in-loop-vertex.ensures.value ∙ c.loop-vertex.invariant.known.sized))
    (edge_within graph v row c.requires.graph (read_at graph v row inside c.index-graph-vertex.is) c.deref.result.now c.deref.ensures.value k d small)

pub offset_bounds-cost-vertex : goal.offset_bounds-cost-vertex
offset_bounds-cost-vertex c =
    let inside = order_within c.args.graph.now c.args.stop.now c.in_ok-order.field-0 c.deref-vertex-items.result.now c.loop-vertex.vertex-index c.in_ok-order.ensures
    c.deref-vertex-items.ensures.value c.loop-vertex-test.true in
    omega (arith, inside)

pub bounds-cost-vertex : goal.bounds-cost-vertex
bounds-cost-vertex c =
    subst (λ n. get_or c.deref-vertex-items.result.now c.loop-vertex.vertex-index 0 < n) (sym c.requires.cost)
    (order_within c.args.graph.now c.args.stop.now c.in_ok-order.field-0 c.deref-vertex-items.result.now c.loop-vertex.vertex-index c.in_ok-order.ensures
    c.deref-vertex-items.ensures.value c.loop-vertex-test.true)

pub with_cost-requires : goal.with_cost-requires
with_cost-requires c =
    let n = c.loop-vertex.vertex-index in
    let longest = c.loop-vertex.longest.items in
    let v = get_or c.deref-vertex-items.result.now n 0 in
    let greatest = c.greatest_behind-behind.result in
    let is = subst (λ xs. IsGreatest (left_behind c.args.stop.now xs) c.deref.result.now greatest) c.deref-in-loop-vertex.ensures.value c.greatest_behind-behind.ensures in
    let small = greatest_small c.args.stop.now longest (n * 18446744073709551615) c.deref.result.now greatest c.loop-vertex.invariant.small is in
    let here = c.type_inv.cost v in
    if_some greatest _ (λ most same. let below = small most same in omega (arith, below, here, c.loop-vertex-test.true, c.deref-vertex-items.type_inv))

pub index_mut-requires : goal.index_mut-requires
index_mut-requires c =
    subst (λ n. get_or c.deref-vertex-items.result.now c.loop-vertex.vertex-index 0 < n) (sym (c.loop-vertex.longest.ok.0 ∙ c.loop-vertex.invariant.known.sized))
    (order_within c.args.graph.now c.args.stop.now c.in_ok-order.field-0 c.deref-vertex-items.result.now c.loop-vertex.vertex-index c.in_ok-order.ensures
    c.deref-vertex-items.ensures.value c.loop-vertex-test.true)

pub loop-vertex-preserved : goal.loop-vertex-preserved
loop-vertex-preserved c =
    let graph = c.args.graph.now in
    let costs = c.args.cost.now in
    let stop = c.args.stop.now in
    let found = c.in_ok-order.field-0 in
    let items = c.deref-vertex-items.result.now in
    let same = c.deref-vertex-items.ensures.value in
    let n = c.loop-vertex.vertex-index in
    let v = get_or items n 0 in
    let longest = c.loop-vertex.longest.items in
    let row = c.index-graph-vertex.result in
    let greatest = c.greatest_behind-behind.result in
    let inside = order_within graph stop found items n c.in_ok-order.ensures same c.loop-vertex-test.true in
    let at = slice_get-get_or items n 0 c.loop-vertex-test.true in
    let leads = λ (w : ℕ) (step : Enters graph stop v w). subst (λ xs. Contains (take n xs) w) (sym same)
    (leads_before graph stop found c.in_ok-order.ensures c.requires.no_circle n v w (subst (λ xs. slice_get xs n ≡ Some v) same at) step) in
    let is = subst (λ xs. IsGreatest (left_behind stop longest) xs greatest) c.deref.ensures.value
    (subst (λ xs. IsGreatest (left_behind stop xs) c.deref.result.now greatest) c.deref-in-loop-vertex.ensures.value c.greatest_behind-behind.ensures) in
    let small = cost_small n (get_or costs v 0) greatest (omega (arith, c.type_inv.cost v)) (greatest_small stop longest (n * 18446744073709551615) row.items greatest c.loop-vertex.invariant.small is) in
    known_more graph costs stop items n v row greatest longest _ c.loop-vertex.invariant c.requires.graph c.requires.stop at (read_at graph v row inside c.index-graph-vertex.is)
    leads is (ap (λ known. set longest v known) c.with_cost.ensures) small

pub returns : goal.returns
returns c =
    let found = c.in_ok-order.field-0 in
    let same = c.deref-vertex-items.ensures.value in
    let n = c.loop-vertex.vertex-index in
    known_all c.args.graph.now c.args.cost.now c.args.stop.now found n c.loop-vertex.longest.items c.in_ok-order.ensures
    (subst (λ xs. length xs ≤ n) same c.loop-vertex-test.false)
    (subst (λ xs. AreKnownTo c.args.graph.now c.args.cost.now c.args.stop.now xs n c.loop-vertex.longest.items) same c.loop-vertex.invariant)
