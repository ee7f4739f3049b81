use Rattle.std.proofs.Common.{◌≡◌, ◌++◌, ◌∷◌, ◌∙◌, ap, subst}
use Rattle.fact_table.specs.Exchange.{tickets_of}
use Rattle.fact_table.specs.Seats.{AreOutTo}
use Rattle.worker_crew.specs.Turns.{Serves, units_of}
use Rattle.worker_crew.proofs.Turns.{back_serves, serves_not, serves_then}
use Rattle.worker_crew.proofs.worker.give_back_all.Goals as goal

pub loop-ticket-init : goal.loop-ticket-init
loop-ticket-init g c = record {
  table = c.requires.ready.0;
  idle = c.requires.ready.1;
  out = c.requires.tickets;
  serves = serves_not (units_of (tickets_of c.args.done.items ++ c.args.tickets.items)) c.args.seat.now;
}

pub loop-ticket-preserved : goal.loop-ticket-preserved
loop-ticket-preserved g c =
    let was = c.loop-ticket.invariant in
    let before = tickets_of c.loop-ticket.done.items ++ c.loop-ticket.tickets.items in
    let rest = tickets_of c.next_ticket.new.done.items ++ c.next_ticket.new.tickets.items in
    let t = c.in-Some.ticket in
    let taken : before ≡ t ∷ rest = c.in-Some.ensures in
    let out : AreOutTo g.C.Chip.analysis c.loop-ticket.seat (t ∷ rest) = subst (λ ts. AreOutTo g.C.Chip.analysis c.loop-ticket.seat ts) taken was.out in
    let all = units_of (tickets_of c.args.done.items ++ c.args.tickets.items) in
    let back = back_serves g.C.Chip.analysis c.loop-ticket.seat c.give_back.new.seat t (units_of rest) c.give_back.ensures.given_back in
    record {
      table = ap (λ s. s.table) back.seat ∙ was.table;
      idle = ap (λ s. s.holds) back.seat ∙ was.idle;
      out = c.give_back.ensures.others_out rest out;
      serves = serves_then all (units_of (t ∷ rest)) (units_of rest) c.args.seat.now c.loop-ticket.seat c.give_back.new.seat
          (subst (λ ts. Serves all (units_of ts) c.args.seat.now c.loop-ticket.seat) taken was.serves) back;
    }
