use Rattle.std.proofs.Common.{◌≡◌}
use Rattle.std.specs.List.{AllByRecursion}
use Rattle.std.specs.Vec.Iter.{into_iter_items}
use Rattle.book_rules.specs.Sound.{IsThere}
use Rattle.round_core.specs.Renewal.{with_works, IsBeginning}
use Rattle.round_core.proofs.parts.Parts.begin_units.Given as goal

abbrev pub invariant-loop-pair : goal.invariant-loop-pair
invariant-loop-pair g l = record {
  rest : with_works l.self.works.rows (into_iter_items l.pair-iterator) ≡ with_works l.fn.self.works.rows l.fn.done.items;
  nodes : l.self.nodes.rows ≡ l.fn.self.nodes.rows;
  there : AllByRecursion (λ pair. IsThere l.fn.self.nodes.rows pair.0) (into_iter_items l.pair-iterator);
  begins : IsBeginning l.self;
}
