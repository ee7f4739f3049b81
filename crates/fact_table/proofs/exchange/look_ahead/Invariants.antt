use Rattle.std.proofs.Common.{◌≡◌, length}
use Rattle.fact_table.specs.Exchange.{AreAhead}
use Rattle.fact_table.proofs.exchange.look_ahead.Given as goal

abbrev pub invariant-loop-one : goal.invariant-loop-one
invariant-loop-one g l = record {
  len : length l.ahead.items ≡ l.one-index;
  looked : AreAhead (g.C.Chip.analysis (g.C.Chip.base l.chip)) l.done l.ahead.items;
}
