use Rattle.std.proofs.Common.{◌≡◌, ℕ, ◌+◌, ◌∙◌, None, Some, get_or, subst, sym, take}
use Rattle.std.specs.Prelude.{slice_get}
use Rattle.std.proofs.lemmas.Option.{get_or_from_slice_get, slice_get-get_or}
use Rattle.graph_walks.specs.Graphs.{IsUnmarked}
use Rattle.graph_walks.specs.Ways.{IsNearest}
use Rattle.graph_walks.proofs.CircleLemmas.{nearest_all, nearest_more, nearest_past}
use Rattle.graph_walks.proofs.ListLemmas.{value_at}
use Rattle.graph_walks.proofs.circles.nearest.Goals as goal
use Rattle.graph_walks.proofs.circles.nearest.Goals.{then-not-stop-vertex+in-Some, then-not-stop-vertex+in_default, else-not-stop-vertex}

pub loop-vertex-preserved : goal.loop-vertex-preserved
loop-vertex-preserved c =
    let stop = c.args.stop.now in
    let distances = c.args.distances.now in
    let row = c.args.row.now in
    let n = c.loop-vertex.vertex-index in
    let v = get_or row n 0 in
    let held = c.loop-vertex.nearest in
    let is = slice_get-get_or row n 0 c.loop-vertex-test.true in
    let inside = c.requires.stop n 0 c.loop-vertex-test.true in
    let within = c.requires.distances n 0 c.loop-vertex-test.true in
    let Nearest = IsNearest stop distances (take (n + 1) row) in
    elim c.if-not-stop-vertex.branch [
      | then-not-stop-vertex+in-Some w ↦
          subst Nearest (sym w.nearest-is) (nearest_more stop distances row n held (record { distance = w.in-Some.distance; vertex = v }) w.nearer.result is
          (value_at stop v _ _ inside w.if-not-stop-vertex.true) (value_at distances v _ _ within w.in-Some.is) c.loop-vertex.invariant w.nearer.ensures)
      | then-not-stop-vertex+in_default w ↦
          subst Nearest (sym w.nearest-is) (nearest_past stop distances row n v held is
          (λ (distance : ℕ) (free : IsUnmarked stop v) (at : slice_get distances v ≡ Some (Some distance)).
          w.in_default.not-Some distance (get_or_from_slice_get distances v (Some distance) None at)) c.loop-vertex.invariant)
      | else-not-stop-vertex w ↦
          let stops = value_at stop v _ _ inside w.if-not-stop-vertex.false in
          subst Nearest (sym w.nearest-is) (nearest_past stop distances row n v held is
          (λ (distance : ℕ) (free : IsUnmarked stop v) (at : slice_get distances v ≡ Some (Some distance)). let clash = sym free ∙ stops in absurd (cc)) c.loop-vertex.invariant)
    ]

pub returns : goal.returns
returns c = nearest_all c.args.stop.now c.args.distances.now c.args.row.now c.loop-vertex.vertex-index c.loop-vertex.nearest c.loop-vertex-test.false c.loop-vertex.invariant
