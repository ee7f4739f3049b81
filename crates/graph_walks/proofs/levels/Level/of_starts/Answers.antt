use Rattle.std.proofs.Common.{◌+◌, refl, subst, sym}
use Rattle.graph_walks.proofs.LevelLemmas.{IsBegun, begins, begins_more, begins_past, has_begun}
use Rattle.graph_walks.proofs.ListLemmas.{none_only, value_at}
use Rattle.graph_walks.proofs.levels.Level.of_starts.Goals as goal
use Rattle.graph_walks.proofs.levels.Level.of_starts.Goals.{then-is_start+in_ok-lead_to, else-is_start}

pub loop-vertex-init : goal.loop-vertex-init
loop-vertex-init c = begins c.args.from.now _ _ refl (c.in_ok-vec.ensures.items_if_clones_equal (none_only _ (λ d copy. copy))) c.new.ensures.items

pub loop-vertex-preserved : goal.loop-vertex-preserved
loop-vertex-preserved c =
    let from = c.args.from.now in
    let n = c.loop-vertex.vertex in
    elim c.if-is_start.branch [
      | then-is_start+in_ok-lead_to w ↦
          subst (IsBegun from (n + 1)) (sym w.level-is) (begins_more from n c.loop-vertex.level w.lead_to.new.self
          (value_at from n _ _ c.loop-vertex-test.true w.if-is_start.true) c.loop-vertex.invariant w.in_ok-lead_to.ensures)
      | else-is_start w ↦
          subst (IsBegun from (n + 1)) (sym w.level-is) (begins_past from n c.loop-vertex.level (value_at from n _ _ c.loop-vertex-test.true w.if-is_start.false) c.loop-vertex.invariant)
    ]

pub returns : goal.returns
returns c = has_begun c.args.from.now c.loop-vertex.vertex c.loop-vertex.level c.loop-vertex-test.false c.loop-vertex.invariant
