use Rattle.std.proofs.Common.{◌≤◌, [], length}
use Rattle.fact_table.specs.Seats.{AreOutTo}
use Rattle.fact_table.specs.Named.{table_of}
use Rattle.worker_crew.specs.Turns.{IsReady, Serves, units_of}
use Rattle.worker_crew.proofs.worker.work.Given as goal

abbrev pub invariant-loop : goal.invariant-loop
invariant-loop g l = record {
  ready : IsReady (table_of l.table) (g.C.Chip.base l.chip) l.seat;
  serves : Serves [] (units_of l.tickets.items) l.fn.seat l.seat;
  out : AreOutTo g.C.Chip.analysis l.seat l.tickets.items;
  few : length l.tickets.items ≤ 4;
}
