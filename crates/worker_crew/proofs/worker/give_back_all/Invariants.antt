use Rattle.std.proofs.Common.{◌≡◌, ◌++◌, false, length}
use Rattle.fact_table.specs.Exchange.{tickets_of}
use Rattle.fact_table.specs.Seats.{AreOutTo}
use Rattle.fact_table.specs.Named.{table_of}
use Rattle.worker_crew.specs.Turns.{Serves, units_of}
use Rattle.worker_crew.proofs.worker.give_back_all.Given as goal

abbrev pub invariant-loop-ticket : goal.invariant-loop-ticket
invariant-loop-ticket g l = record {
  table : l.seat.table ≡ table_of l.table;
  idle : l.seat.holds ≡ false;
  out : AreOutTo g.C.Chip.analysis l.seat (tickets_of l.done.items ++ l.tickets.items);
  serves : Serves (units_of (tickets_of l.fn.done.items ++ l.fn.tickets.items)) (units_of (tickets_of l.done.items ++ l.tickets.items)) l.fn.seat l.seat;
}

abbrev pub decreases-loop-ticket : goal.decreases-loop-ticket
decreases-loop-ticket g l = length (tickets_of l.done.items ++ l.tickets.items)
