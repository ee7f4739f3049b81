use Rattle.std.proofs.Common.{◌++◌, [], ap, not, subst}
use Rattle.fact_table.specs.Exchange.{tickets_of}
use Rattle.worker_crew.specs.Turns.{GoesOn, Serves, units_of}
use Rattle.worker_crew.proofs.Turns.{exchange_goes_on, exchange_serves, serves_then}
use Rattle.worker_crew.proofs.worker.go_on.Goals as goal

pub returns-then-ran_out-clause-ended : goal.returns-then-ran_out-clause-ended
returns-then-ran_out-clause-ended g c =
    let worked = c.work_all.new.seat in
    let new = c.exchange-exchanged.new.seat in
    let done = c.in_ok-done.done.items in
    let r = c.exchange-exchanged.result in
    let last = c.give_back_all.new.seat in
    let all = units_of (tickets_of done) in
    let left = units_of (tickets_of r.unposted.items ++ r.tickets.items) in
    let serves : Serves all [] worked last =
    serves_then all left [] worked new last (exchange_serves g.C.Chip.analysis worked new done c.wanted.result 1 r c.exchange-exchanged.ensures.exchanges) c.give_back_all.ensures in
    subst (λ s. Serves (units_of c.args.tickets.items) [] s last) c.in_ok-done.ensures.seat
    (subst (λ ts. Serves (units_of ts) [] worked last) c.in_ok-done.ensures.done serves)

pub returns-clause-goes_on : goal.returns-clause-goes_on
returns-clause-goes_on g c =
    let worked = c.work_all.new.seat in
    let new = c.exchange-exchanged.new.seat in
    let r = c.exchange-exchanged.result in
    subst (λ s. GoesOn g.C.Chip.analysis c.args.tickets.items s r.tickets.items new) c.in_ok-done.ensures.seat
    (exchange_goes_on g.C.Chip.analysis worked new c.in_ok-done.done.items c.wanted.result 1 r c.args.tickets.items c.in_ok-done.ensures.done c.wanted.ensures.few
    (c.ran_out.ensures (ap not c.if-ran_out.false)) c.exchange-exchanged.ensures.exchanges)
