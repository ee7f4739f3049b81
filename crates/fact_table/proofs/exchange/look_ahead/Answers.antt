use Rattle.std.proofs.Common.{◌≡◌, ◌<◌, ◌++◌, ◌∷◌, [], Some, ap, sym, subst, arith, length, length-append, slice_get}
use Rattle.fact_table.specs.Exchange.{AreAhead}
use Rattle.fact_table.proofs.AheadLemmas.{ahead_more, got}
use Rattle.fact_table.proofs.exchange.look_ahead.Goals as goal

pub loop-one-preserved : goal.loop-one-preserved
loop-one-preserved g c =
    let m = g.C.Chip.analysis (g.C.Chip.base c.args.chip.now) in
    let done = c.args.done.now in
    let i = c.loop-one.one-index in
    let one = c.one-item.result in
    let ahead = c.loop-one.ahead.items in
    let rows = c.look_ahead.result in
    let items = c.in-Ok.ensures.items in
    let inside : i < length done = omega arith in
    let at : slice_get done i ≡ Some one = got done i one inside c.one-item.is in
    let was = c.loop-one.invariant.len in
    let more : length c.push_back.new.self.items ≡ length (ahead ++ rows ∷ []) = ap length items in
    let sum = length-append ahead (rows ∷ []) in
    record {
      len = omega arith;
      looked = subst (λ all. AreAhead m done all) (sym items) (ahead_more m done ahead one rows i was at c.look_ahead.ensures c.loop-one.invariant.looked);
    }
