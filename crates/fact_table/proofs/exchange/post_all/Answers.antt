use Rattle.std.proofs.Common.{◌≡◌, ◌∷◌, ◌∙◌, IfErr, OnErr, OnOk, refl, sym, ap, subst}
use Rattle.fact_table.specs.Exchange.{AreAhead, Posts}
use Rattle.round_core.specs.Ahead.{IsAhead}
use Rattle.book_rules.specs.Kept.{with_event}
use Rattle.book_rules.specs.declared.event.Event.TheVariants.{Post}
use Rattle.fact_table.proofs.AheadLemmas.{ahead_taken}
use Rattle.fact_table.proofs.ExchangeLemmas.{posts_more, posts_none, works_rest}
use Rattle.fact_table.proofs.exchange.post_all.Goals as goal

pub loop-first-init : goal.loop-first-init
loop-first-init g c = record {
  base = refl;
  works = c.requires.works;
  ahead = c.requires.ahead;
  posts = posts_none (g.C.Chip.analysis c.args.book.now.base) c.args.book.now c.args.done.items c.requires.out;
}

pub loop-first-preserved : goal.loop-first-preserved
loop-first-preserved g c =
    let was = c.loop-first.invariant in
    let m = g.C.Chip.analysis c.args.book.now.base in
    let first = c.in-Some.first in
    let left = c.take_front.new.items.items in
    let posted = subst (λ r. OnOk r (c.post_ahead.new.self ≡ with_event c.loop-first.book (Post first.ticket.seat first.ticket.unit))) c.in_default-post_ahead.is c.post_ahead.ensures.posted in
    record {
      base = ap (λ b. b.base) posted ∙ was.base;
      works = works_rest m first left _ c.in-Some.ensures.first was.works;
      ahead = (ahead_taken m first left c.loop-first.ahead.items c.take_first-looked.new.ahead.items c.take_first-looked.result c.take_first-looked.ensures
          (subst (λ ds. AreAhead m ds c.loop-first.ahead.items) c.in-Some.ensures.first was.ahead)).1;
      posts = posts_more m c.args.book.now c.loop-first.book c.post_ahead.new.self c.args.done.items first left (c.outs_stay_beside.ensures c.args.book.now.base) posted
          (subst (λ ds. Posts m c.args.book.now c.args.done.items ds c.loop-first.book) c.in-Some.ensures.first was.posts);
    }

pub returns-in-Err : goal.returns-in-Err
returns-in-Err g c =
    let old = c.args.book.now in
    let m = g.C.Chip.analysis old.base in
    let handed = subst (λ r. IfErr r (λ refused. refused.1 ≡ c.in-Some.first)) c.in-Err.is c.post_ahead.ensures.handed_back in
    let same = subst (λ r. OnErr r (c.post_ahead.new.self ≡ c.loop-first.book)) c.in-Err.is c.post_ahead.ensures.refused in
    subst (λ b. Posts m old c.args.done.items c.put_first.new.items.items b) (sym same)
    (subst (λ ds. Posts m old c.args.done.items ds c.loop-first.book)
    (c.in-Some.ensures.first ∙ ap (λ d. d ∷ c.take_front.new.items.items) (sym handed) ∙ sym c.put_first.ensures) c.loop-first.invariant.posts)

pub post_ahead-requires-clause-ahead : goal.post_ahead-requires-clause-ahead
post_ahead-requires-clause-ahead g c κs within =
    let was = c.loop-first.invariant in
    let m = g.C.Chip.analysis c.args.book.now.base in
    subst (λ base. IsAhead (g.C.Chip.analysis base) c.in-Some.first c.take_first-looked.result) (sym was.base)
    (ahead_taken m c.in-Some.first _ c.loop-first.ahead.items c.take_first-looked.new.ahead.items c.take_first-looked.result c.take_first-looked.ensures
    (subst (λ ds. AreAhead m ds c.loop-first.ahead.items) c.in-Some.ensures.first was.ahead)).0
