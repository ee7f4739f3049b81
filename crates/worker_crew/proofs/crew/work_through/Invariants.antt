use Rattle.std.proofs.Common.{◌≤◌, ◌+◌}
use Rattle.fact_table.specs.Named.{table_of}
use Rattle.worker_crew.specs.Turns.{IsReady, StaysAnswered, TakesIn}
use Rattle.worker_crew.proofs.crew.work_through.Given as goal

abbrev pub invariant-loop : goal.invariant-loop
invariant-loop g l = record {
  ready : IsReady (table_of l.table) (g.C.Chip.base l.chip) l.seat;
  room : l.more ≤ l.seat.room + l.counter;
  takes_in : TakesIn l.fn.seat l.seat;
  answered : StaysAnswered l.fn.seat l.seat;
}
