use Rattle.std.proofs.Common.{◌∙◌, ◌++◌, ◌∷◌, [], ap, arith}
use Rattle.graph_walks.proofs.CircleLemmas.{circle_has_way, circle_within, comes_first_way, comes_on, comes_to_end, some_way}
use Rattle.graph_walks.proofs.circles.shortest.Goals as goal

pub nearest_from-requires-clause-vertex : goal.nearest_from-requires-clause-vertex
nearest_from-requires-clause-vertex c = circle_within c.args.graph.now c.args.stop.now c.args.vertex c.requires.circle

pub unreachable-requires : goal.unreachable-requires
unreachable-requires c =
    let (row, at, none) = c.in_default.ensures in
    circle_has_way c.args.graph.now c.args.stop.now c.args.distances.now c.args.vertex row c.requires.distances c.requires.graph at c.requires.circle none

pub loop-way-init : goal.loop-way-init
loop-way-init c =
    let (row, at, nearest) = c.in-Some.ensures in
    comes_first_way c.args.graph.now c.args.stop.now c.args.distances.now c.args.vertex c.push.new.self.items c.in-Some.way row c.requires.distances c.requires.graph at nearest
    (c.in_ok-push.ensures.items ∙ ap (λ xs. xs ++ c.args.vertex ∷ []) c.new-circle.ensures.items)

pub unreachable-requires-in_default-nearest_from : goal.unreachable-requires-in_default-nearest_from
unreachable-requires-in_default-nearest_from c =
    let (row, at, none) = c.in_default-nearest_from.ensures in
    let coming = c.loop-way.invariant in
    some_way c.args.graph.now c.args.stop.now c.args.distances.now c.args.vertex c.loop-way.way row coming.row c.requires.distances c.requires.graph coming.is at
    c.loop-way-test.true none

pub loop-way-smaller : goal.loop-way-smaller
loop-way-smaller c =
    let (row, at, nearest) = c.in-Some-nearest_from.ensures in
    (comes_on c.args.graph.now c.args.stop.now c.args.distances.now c.args.vertex c.loop-way.circle.items c.push-in-loop-way.new.self.items c.loop-way.way c.in-Some-nearest_from.next row
    c.requires.distances c.requires.graph c.loop-way.invariant at nearest c.loop-way-test.true c.in_ok-push-2.ensures.items).1

pub loop-way-preserved : goal.loop-way-preserved
loop-way-preserved c =
    let (row, at, nearest) = c.in-Some-nearest_from.ensures in
    (comes_on c.args.graph.now c.args.stop.now c.args.distances.now c.args.vertex c.loop-way.circle.items c.push-in-loop-way.new.self.items c.loop-way.way c.in-Some-nearest_from.next row
    c.requires.distances c.requires.graph c.loop-way.invariant at nearest c.loop-way-test.true c.in_ok-push-2.ensures.items).0

pub returns : goal.returns
returns c =
    comes_to_end c.args.graph.now c.args.stop.now c.args.distances.now c.args.vertex c.loop-way.circle.items c.push-2.new.self.items c.loop-way.way c.requires.distances
    c.requires.graph c.loop-way.invariant (omega arith) c.in_ok-push-3.ensures.items
