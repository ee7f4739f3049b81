use Rattle.std.proofs.Common.{◌≡◌, ◌∙◌, length, rules, sym}
use Rattle.std.specs.Prelude.{vec_len}
use Rattle.worker_crew.proofs.Turns.{none_left}
use Rattle.worker_crew.proofs.worker.work_all.Goals as goal

pub returns-then-is_empty-clause-done : goal.returns-then-is_empty-clause-done
returns-then-is_empty-clause-done g c =
    let done = c.work_on-done.result.0.items in
    let left = c.work_on-done.result.1.items in
    let len : vec_len c.work_on-done.result.1 ≡ length left = search rules in
    none_left c.args.tickets.items done left (vec_len c.work_on-done.result.1) len (sym c.is_empty.ensures ∙ c.if-is_empty.true) c.work_on-done.ensures.whole
