use Rattle.std.proofs.Common.{◌+◌, ◌∙◌, ap, get_or, subst, sym, take}
use Rattle.std.proofs.lemmas.Option.{slice_get-get_or}
use Rattle.graph_walks.specs.Greatest.{IsGreatest, greater, left_behind}
use Rattle.graph_walks.proofs.LegLemmas.{greatest_all, greatest_more}
use Rattle.graph_walks.proofs.legs.greatest_behind.Goals as goal

pub loop-vertex-preserved : goal.loop-vertex-preserved
loop-vertex-preserved c =
    let left = left_behind c.args.stop.now c.args.longest.now in
    let row = c.args.row.now in
    let n = c.loop-vertex.vertex-index in
    let is = c.greater-most.ensures ∙ ap (greater c.loop-vertex.most) c.left_behind.ensures in
    subst (IsGreatest left (take (n + 1) row)) (sym is)
    (greatest_more left row n (get_or row n 0) c.loop-vertex.most (slice_get-get_or row n 0 c.loop-vertex-test.true) c.loop-vertex.invariant)

pub returns : goal.returns
returns c =
    greatest_all (left_behind c.args.stop.now c.args.longest.now) c.args.row.now c.loop-vertex.vertex-index c.loop-vertex.most c.loop-vertex-test.false c.loop-vertex.invariant
