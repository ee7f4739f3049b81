use Rattle.std.proofs.Common.{◌≡◌, ◌+◌, ◌-◌, ◌<◌, ap, ◌∙◌, subst, arith, cond, drop, length, length-set, Some, sym, unwrap_or}
use Rattle.std.specs.Map.{lookup}
use Rattle.call_context.specs.Nodes.{frame_of}
use Rattle.call_context.specs.contracts.node.FramePartialEq.TheImpl as frame_impl
use Rattle.call_context.specs.declared.node.Frame.{Frame}
use Rattle.cert_check.specs.Exits.{AreFirsts, nexts_of}
use Rattle.cert_check.proofs.ExitsLemmas.{firsts_added, nexts_added}
use Rattle.cert_check.proofs.TableLemmas.{same_test}
use Rattle.cert_check.proofs.exits.Exits.new.Goals as goal

pub loop-place-preserved : goal.loop-place-preserved
loop-place-preserved g c =
    let eq = (frame_impl.ghosts).eq in
    let same = same_test eq c.equal_nodes_are_one.ensures.frames c.tests_tell_which_are_one.ensures.frames in
    let rows = c.args.rows.now in
    let end = length rows in
    let old = c.loop-place.firsts.entries in
    let place = c.loop-place.place - 1 in
    let row = c.index-rows-place.result in
    let below : place < length rows = omega (arith, c.loop-place-test.true, c.loop-place.auto.place) in
    let back : c.loop-place.place ≡ place + 1 = omega (arith, c.loop-place-test.true) in
    let firsts = subst (λ n. AreFirsts eq old end n (drop n rows)) back c.loop-place.invariant.0 in
    let frame = c.frame_of-frame.ensures ∙ ap (λ r. frame_of r.0) (sym c.index-rows-place.is) in
    let writes = subst (λ f. (q : Frame) → lookup (eq q) c.insert.new.self.entries ≡ cond (eq f q) (Some place) (lookup (eq q) old))
    frame c.in_ok-insert.ensures.updates.0 in
    let next = c.unwrap_or.ensures ∙ ap (λ o. unwrap_or o end) c.in_ok-insert.ensures.old
    ∙ ap (λ f. unwrap_or (lookup (eq f) old) end) frame ∙ firsts (frame_of row.0) in (
      firsts_added eq same old c.insert.new.self.entries end place rows row below c.index-rows-place.is writes firsts,
      length-set c.loop-place.nexts.items place c.unwrap_or.result ∙ c.loop-place.invariant.1,
      nexts_added rows c.loop-place.nexts.items place c.unwrap_or.result row below c.loop-place.invariant.1 c.index-rows-place.is next
          (subst (λ n. drop n c.loop-place.nexts.items ≡ nexts_of n (drop n rows)) back c.loop-place.invariant.2),
    )
