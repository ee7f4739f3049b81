use Rattle.std.proofs.Common.{◌≡◌, length}
use Rattle.std.specs.List.{AllByRecursion}
use Rattle.fact_table.specs.Exchange.{AreAhead, IsWorked, Posts}
use Rattle.fact_table.proofs.exchange.post_all.Given as goal

abbrev pub invariant-loop-first : goal.invariant-loop-first
invariant-loop-first g l = record {
  base : l.book.base ≡ l.fn.book.base;
  works : AllByRecursion (IsWorked (g.C.Chip.analysis l.fn.book.base)) l.left.items;
  ahead : AreAhead (g.C.Chip.analysis l.fn.book.base) l.left.items l.ahead.items;
  posts : Posts (g.C.Chip.analysis l.fn.book.base) l.fn.book l.fn.done.items l.left.items l.book;
}

abbrev pub decreases-loop-first : goal.decreases-loop-first
decreases-loop-first g l = length l.left.items
