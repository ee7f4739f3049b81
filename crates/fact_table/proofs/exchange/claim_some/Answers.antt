use Rattle.std.proofs.Common.{◌≡◌, ◌++◌, ◌∷◌, [], ◌∙◌, Ok, refl, ap, sym, subst, arith, length, length-append}
use Rattle.std.specs.Prelude.{nat_lt}
use Rattle.fact_table.specs.Exchange.{AnswersFurther}
use Rattle.fact_table.proofs.ExchangeLemmas.{ClaimsSoFar, behind_some, claims_end, claims_full, claims_more, claims_none, some_behind}
use Rattle.fact_table.proofs.exchange.claim_some.Goals as goal

pub loop-count-init : goal.loop-count-init
loop-count-init g c = record {
  base = c.requires.chip;
  same = refl;
  count = ap length c.requires.empty;
  room = c.requires.room;
  so_far = claims_none (g.C.Chip.analysis c.args.book.now.base) c.args.seat c.args.book.now c.args.share c.args.tickets.items c.requires.empty;
}

pub loop-count-preserved : goal.loop-count-preserved
loop-count-preserved g c =
    let was = c.loop-count.invariant in
    let old = c.args.book.now in
    let m = g.C.Chip.analysis old.base in
    let k = c.loop-count.book in
    let k' = c.claim_further.new.book in
    let ts = c.loop-count.tickets.items in
    let t = c.in-Ok.ticket in
    let behind = nat_lt 0 c.loop-count.count in
    let answer : AnswersFurther m c.args.seat k k' c.args.share behind (Ok t) =
    subst (λ r. AnswersFurther m c.args.seat k k' c.args.share behind r) c.in-Ok.is
    (subst (λ b. AnswersFurther (g.C.Chip.analysis b) c.args.seat k k' c.args.share behind c.claim_further.result) was.same c.claim_further.ensures) in
    let base : k'.base ≡ k.base = ap (λ b. b.base) answer.2 in
    let items = c.push_reserved.ensures.items in
    let more : length c.push_reserved.new.self.items ≡ length (ts ++ t ∷ []) = ap length items in
    let count = was.count in
    let room = was.room in
    let grows = c.push_reserved.ensures.capacity in
    let l = length-append ts (t ∷ []) in
    record {
      base = was.base ∙ sym base;
      same = base ∙ was.same;
      count = omega arith;
      room = omega arith;
      so_far = subst (λ ts. ClaimsSoFar m c.args.seat old c.args.share ts k') (sym items)
          (claims_more m c.args.seat old k k' c.args.share behind ts t (c.outs_stay_beside.ensures old.base) (λ u v e. (c.tests_tell_which_are_one.ensures.units u v).0 e)
          (some_behind (length ts) c.loop-count.count was.count) answer was.so_far);
    }

pub returns-in-Err : goal.returns-in-Err
returns-in-Err g c =
    let was = c.loop-count.invariant in
    let ts = c.loop-count.tickets.items in
    let behind = nat_lt 0 c.loop-count.count in
    let answer = subst (λ r. AnswersFurther (g.C.Chip.analysis c.args.book.now.base) c.args.seat c.loop-count.book c.claim_further.new.book c.args.share behind r) c.in-Err.is
    (subst (λ b. AnswersFurther (g.C.Chip.analysis b) c.args.seat c.loop-count.book c.claim_further.new.book c.args.share behind c.claim_further.result) was.same c.claim_further.ensures) in
    let count = was.count in
    let below = c.loop-count-test.true in
    claims_end (g.C.Chip.analysis c.args.book.now.base) c.args.seat c.args.book.now c.loop-count.book c.claim_further.new.book c.args.want c.args.share behind ts c.in-Err.last (omega arith)
    (behind_some (length ts) c.loop-count.count was.count) (some_behind (length ts) c.loop-count.count was.count) answer was.so_far

pub returns : goal.returns
returns g c =
    let was = c.loop-count.invariant in
    let count = was.count in
    let most = c.loop-count.auto.count-end in
    let least = c.loop-count-test.false in
    claims_full (g.C.Chip.analysis c.args.book.now.base) c.args.seat c.args.book.now c.loop-count.book c.args.want c.args.share c.loop-count.tickets.items (omega arith) was.so_far
