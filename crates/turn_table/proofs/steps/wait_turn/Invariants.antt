use Rattle.std.proofs.Common.{◌≡◌, ℕ, ◌%◌, []}
use Rattle.turn_table.specs.Views.{on, draws}
use Rattle.turn_table.proofs.steps.wait_turn.Given as goal

abbrev pub invariant-loop : goal.invariant-loop
invariant-loop g l = record { table : l.place.table_id ≡ l.fn.place.table_id; waits : (t : ℕ) × (l.ticket ≡ t % 18446744073709551616) × (l.place.me ≡ (on (draws t) l.fn.place.me.0, [])) }
