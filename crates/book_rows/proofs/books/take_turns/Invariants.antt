use Rattle.std.proofs.Common.{◌≡◌}
use Rattle.book_rows.proofs.books.take_turns.Given as goal

abbrev pub invariant-loop : goal.invariant-loop
invariant-loop g l = g.C.Chip.base l.chip ≡ l.book.base
