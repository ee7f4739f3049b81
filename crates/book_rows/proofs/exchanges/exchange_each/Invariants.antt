use Rattle.std.proofs.Common.{◌≡◌, ◌++◌, false, Some, option_to_list}
use Rattle.fact_table.specs.Named.{table_of}
use Rattle.fact_table.specs.Seats.{AreOutTo}
use Rattle.book_rows.proofs.exchanges.exchange_each.Given as goal

abbrev pub invariant-loop-want : goal.invariant-loop-want
invariant-loop-want g l = record {
  table : l.seat.table ≡ table_of l.table;
  idle : l.seat.holds ≡ false;
  chip : Some (g.C.Chip.base l.chip) ≡ l.seat.base;
  all : l.seat.stands ≡ l.seat.made;
  tickets : AreOutTo g.C.Chip.analysis l.seat (option_to_list l.tickets.0 ++ option_to_list l.tickets.1);
}
