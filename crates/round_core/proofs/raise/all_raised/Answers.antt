use Rattle.std.proofs.Common.{◌∙◌, ◌+◌, ◌<◌, ap, sym, subst, arith, length, take, drop, ◌++◌, ◌∷◌, []}
use Rattle.std.proofs.lemmas.List.{take_more}
use Rattle.round_core.specs.Ahead.{AreBefore}
use Rattle.book_rules.specs.Machine.{raised, all_raised}
use Rattle.round_core.specs.Raise.{held_rows, with_all}
use Rattle.book_rules.specs.Stays.{AllStay}
use Rattle.round_core.proofs.AheadLemmas.{next-before, next-still}
use Rattle.round_core.proofs.Cases.{drop_next}
use Rattle.book_rules.specs.Staying.{AllStay-all_raised}
use Rattle.round_core.proofs.RaiseLemmas.{all_raised-append}
use Rattle.round_core.proofs.raise.all_raised.Goals as goal

pub loop-node-preserved : goal.loop-node-preserved
loop-node-preserved g c =
    let m = g.C.Chip.analysis (g.C.Chip.base c.args.chip.now) in
    let ns = c.args.nodes.now.rows in
    let posts = c.args.posts.now in
    let i = c.loop-node.node-index in
    let x = c.loop-node-item.result in
    let inside : i < length posts = omega arith in
    record {
      over = c.in_ok-near.ensures.over;
      raised = c.in_ok-near.ensures.raised
          ∙ ap (λ hs. raised m hs x) c.loop-node.invariant.raised
          ∙ sym (all_raised-append m ns (take i posts) x)
          ∙ ap (λ p. all_raised m ns (take i posts ++ p ∷ [])) c.loop-node-item.is
          ∙ ap (λ ps. all_raised m ns ps) (sym (take_more posts i x inside));
      before = next-before m ns x (drop (i + 1) posts) c.loop-node.ahead c.take_first-looked.new.self c.take_first-looked.result c.take_first-looked.ensures
          (subst (λ ps. AreBefore m ns ps c.loop-node.ahead) (drop_next posts i x inside c.loop-node-item.is) c.loop-node.invariant.before);
    }

pub raise_one-requires-clause-looked : goal.raise_one-requires-clause-looked
raise_one-requires-clause-looked g c κs within =
    let m = g.C.Chip.analysis (g.C.Chip.base c.args.chip.now) in
    let ns = c.args.nodes.now.rows in
    let inside : c.loop-node.node-index < length c.args.posts.now = omega arith in
    next-still m ns c.loop-node-item.result _ c.loop-node.ahead c.take_first-looked.new.self (with_all ns (held_rows c.loop-node.all.rows.items)) c.take_first-looked.result c.take_first-looked.ensures
    (subst (λ hs. AllStay ns hs) (sym c.loop-node.invariant.raised) (AllStay-all_raised m ns (take c.loop-node.node-index c.args.posts.now)))
    (subst (λ ps. AreBefore m ns ps c.loop-node.ahead) (drop_next c.args.posts.now c.loop-node.node-index c.loop-node-item.result inside c.loop-node-item.is) c.loop-node.invariant.before)
