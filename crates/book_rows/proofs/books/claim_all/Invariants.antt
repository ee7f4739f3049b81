use Rattle.std.proofs.Common.{◌≡◌}
use Rattle.book_rows.proofs.books.claim_all.Given as goal

abbrev pub invariant-loop-seat : goal.invariant-loop-seat
invariant-loop-seat g l = g.C.Chip.base l.chip ≡ l.book.base
