use Rattle.std.proofs.Common.{◌≡◌, false}
use Rattle.book_rows.proofs.turns.write_all.Given as goal

abbrev pub invariant-loop-number : goal.invariant-loop-number
invariant-loop-number g l = record {
  table : l.seat.table ≡ l.fn.seat.table;
  idle : l.seat.holds ≡ false;
  seats : l.seat.seats ≡ l.fn.seat.seats;
  stands : l.seat.stands ≡ l.fn.seat.stands;
  made : l.seat.made ≡ l.fn.seat.made;
}
