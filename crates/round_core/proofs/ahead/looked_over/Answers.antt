use Rattle.std.proofs.Common.{◌≡◌, ◌<◌, ◌++◌, ◌∷◌, [], Some, ap, sym, subst, arith, length, length-append, slice_get}
use Rattle.round_core.specs.Ahead.{AreLooked, IsLooked}
use Rattle.round_core.proofs.AheadLemmas.{looked-more}
use Rattle.round_core.proofs.Cases.{get-index, match_some}
use Rattle.round_core.proofs.ahead.looked_over.Goals as goal

pub loop-node-preserved : goal.loop-node-preserved
loop-node-preserved g c =
    let m = g.C.Chip.analysis (g.C.Chip.base c.args.chip.now) in
    let met = c.args.met.now in
    let posts = c.args.posts.now in
    let i = c.loop-node.node-index in
    let x = c.loop-node-item.result in
    let rows = c.loop-node.rows.items in
    let looked = c.in-Some-2.looked in
    let items = c.in_ok-push_back-in-Some-2.ensures.items in
    let inside : i < length posts = omega arith in
    let at : slice_get posts i ≡ Some x = get-index posts i x inside c.loop-node-item.is in
    let is = match_some (Unit {0}) (λ l. IsLooked m met x l) c.in_ok-looked.field-0 looked c.in-Some-2.is (c.in_ok-looked.ensures met c.in-Some.ensures) in
    let was = c.loop-node.invariant.len in
    let more : length c.push_back.new.self.items ≡ length (rows ++ looked ∷ []) = ap length items in
    let sum = length-append rows (looked ∷ []) in
    record {
      len = omega arith;
      looked = subst (λ ls. AreLooked m met posts ls) (sym items) (looked-more m met posts rows x looked i was at is c.loop-node.invariant.looked);
    }
