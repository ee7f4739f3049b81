use Rattle.std.proofs.Common.{◌≡◌, []}
use Rattle.std.specs.Vec.Iter.{into_iter_items}
use Rattle.round_core.specs.Renewal.{with_rows, IsBeginning}
use Rattle.round_core.proofs.parts.Parts.begin_nodes.Given as goal

abbrev pub invariant-loop-row : goal.invariant-loop-row
invariant-loop-row g l = record {
  rest : with_rows l.self.nodes.rows (into_iter_items l.row-iterator) ≡ with_rows l.fn.self.nodes.rows l.fn.rows.items;
  works : l.self.works.rows ≡ [];
  begins : IsBeginning l.self;
}
