use Rattle.std.proofs.Common.{refl}
use Rattle.std.proofs.lemmas.Option.{slice_get-get_or}
use Rattle.graph_walks.proofs.SearchLemmas.{assigned_more}
use Rattle.graph_walks.proofs.components.assign.Goals as goal

pub loop-visit-preserved : goal.loop-visit-preserved
loop-visit-preserved c =
    let visits = c.args.visits.now in
    let n = c.loop-visit.visit-index in
    assigned_more visits n c.args.component _ c.args.marks.now c.loop-visit.marks _ c.args.order.now.items c.loop-visit.order.items c.push.new.self.items
    (slice_get-get_or visits n _ c.loop-visit-test.true) (c.requires n _ c.loop-visit-test.true) refl c.in_ok-push.ensures.items c.loop-visit.invariant
