use Rattle.std.proofs.Common.{◌≡◌, ◌≤◌, length}
use Rattle.std.specs.Prelude.{vec_capacity}
use Rattle.fact_table.proofs.ExchangeLemmas.{ClaimsSoFar}
use Rattle.fact_table.proofs.exchange.claim_some.Given as goal

abbrev pub invariant-loop-count : goal.invariant-loop-count
invariant-loop-count g l = record {
  base : g.C.Chip.base l.chip ≡ l.book.base;
  same : l.book.base ≡ l.fn.book.base;
  count : length l.tickets.items ≡ l.count;
  room : l.want ≤ vec_capacity l.tickets;
  so_far : ClaimsSoFar (g.C.Chip.analysis l.fn.book.base) l.seat l.fn.book l.share l.tickets.items l.book;
}
