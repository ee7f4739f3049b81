use Rattle.std.proofs.Common.{◌≡◌, ◌≤◌, length, Some}
use Rattle.std.specs.Vec.Iter.{into_iter_items}
use Rattle.round_core.specs.Agenda.{IsIn}
use Rattle.book_rules.specs.Machine.{place_of}
use Rattle.round_core.specs.Raise.{held_rows, with_all}
use Rattle.round_core.specs.declared.raised.Risen.{Risen}
use Rattle.round_core.proofs.nodes.Nodes.set_all.Given as goal

abbrev pub invariant-loop-risen : goal.invariant-loop-risen
invariant-loop-risen g l = record {
  rest : with_all l.self.rows (held_rows (into_iter_items l.risen-iterator)) ≡ with_all l.fn.self.rows (held_rows l.fn.raised.rows.items);
  room : length (into_iter_items l.risen-iterator) ≤ l.self.room;
  placed : (r : Risen _) → IsIn r (into_iter_items l.risen-iterator) → place_of (with_all l.fn.self.rows (held_rows l.fn.raised.rows.items)) r.node ≡ Some r.place;
}
