use Rattle.std.proofs.Common.{◌≡◌, ◌<◌, ◌++◌, ◌∷◌, ◌∙◌, IfOk, ap, sym, subst, arith, length, rules}
use Rattle.std.specs.List.{AllByRecursion}
use Rattle.fact_table.specs.Exchange.{IsWorked, tickets_of}
use Rattle.worker_crew.proofs.Turns.{all_push, first_taken, worked_more}
use Rattle.worker_crew.proofs.worker.work_on.Goals as goal

pub loop-alloc-preserved : goal.loop-alloc-preserved
loop-alloc-preserved g c =
    let was = c.loop-alloc.invariant in
    let m = g.C.Chip.analysis (g.C.Chip.base c.args.chip.now) in
    let first = c.remove-first.result in
    let left = c.remove-first.new.self.items in
    let done = c.loop-alloc.done.items in
    let one = c.in-Ok-work_one.one in
    let own = subst (λ r. IfOk r (λ d. d.ticket ≡ first)) c.in-Ok-work_one.is c.work_one.ensures.ticket in
    let worked = subst (λ r. IfOk r (IsWorked m)) c.in-Ok-work_one.is c.work_one.ensures.worked in
    let some : 0 < length c.loop-alloc.left.items = search rules in
    let taken : c.loop-alloc.left.items ≡ first ∷ left = first_taken c.loop-alloc.left.items first left some c.remove-first.ensures.value c.remove-first.ensures.items in
    let items = c.push_reserved.ensures.items in
    let room = was.room in
    let longer = c.push_reserved.ensures.len in
    let wider = c.push_reserved.ensures.capacity in
    let shorter = c.remove-first.ensures.len in
    record {
      whole = subst (λ ds. c.args.tickets.items ≡ tickets_of ds ++ left) (sym items)
          (worked_more c.args.tickets.items done one first left own (was.whole ∙ ap (λ l. tickets_of done ++ l) taken));
      works = subst (λ ds. AllByRecursion (IsWorked m) ds) (sym items) (all_push (IsWorked m) done one was.works worked);
      room = omega arith;
    }
