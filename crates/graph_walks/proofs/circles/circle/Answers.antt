use Rattle.graph_walks.proofs.CircleLemmas.{circle_of, circle_within, first_circle, none_of}
use Rattle.graph_walks.proofs.circles.circle.Goals as goal

pub returns-in_default : goal.returns-in_default
returns-in_default c = none_of c.args.graph.now c.args.stop.now c.in_ok-marks.field-0 c.deref.result.now c.in_ok-marks.ensures c.deref.ensures.value c.in_default.ensures

pub distances_to-requires-clause-vertex : goal.distances_to-requires-clause-vertex
distances_to-requires-clause-vertex c =
    circle_within c.args.graph.now c.args.stop.now c.in-Some.vertex
    (circle_of c.args.graph.now c.args.stop.now c.in_ok-marks.field-0 c.deref.result.now c.in-Some.vertex c.in_ok-marks.ensures c.deref.ensures.value c.in-Some.ensures)

pub shortest-requires-clause-circle : goal.shortest-requires-clause-circle
shortest-requires-clause-circle c =
    circle_of c.args.graph.now c.args.stop.now c.in_ok-marks.field-0 c.deref.result.now c.in-Some.vertex c.in_ok-marks.ensures c.deref.ensures.value c.in-Some.ensures

pub returns : goal.returns
returns c =
    first_circle c.args.graph.now c.args.stop.now c.in_ok-marks.field-0 c.deref.result.now c.in-Some.vertex c.in_ok-circle.circle.items c.in_ok-marks.ensures
    c.deref.ensures.value c.in-Some.ensures c.in_ok-circle.ensures
