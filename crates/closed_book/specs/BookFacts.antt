-- What the works of a book show: lemmas, also for the proofs of crates above.
use Rattle.std.proofs.Common.{◌≡◌, Option, Some, List, ap, ◌∙◌}
use Rattle.std.specs.Prelude.{Contains}
use Rattle.std.specs.List.{IsDistinct}
use Rattle.std.specs.Map.{keys_of, values_of}
use Rattle.call_context.specs.declared.node.Node.{Node}
use Rattle.call_context.specs.declared.node.Unit.{Unit as WorkUnit}
use Rattle.chip_analysis.specs.Analysis.{Analysis}
use Rattle.chip_analysis.specs.Table.{IsUnitOver}
use Rattle.chip_analysis.specs.declared.chip.Work.{Work}
use Rattle.closed_book.specs.ClosedBook.{IsClosedBook, NoneIsOpen}
use Rattle.plain_lemmas.specs.Members.{from_values}
use Rattle.book_rules.specs.Kept.{live_pairs, live_works}
use Rattle.book_rules.specs.Machine.{BookState, Done, done_at, IsUnit}
use Rattle.book_rules.specs.Same.{same_unit}
use Rattle.book_rules.specs.Table.{table_of}

-- the last works of a book's units are listed
abbrev pub AreListed : {A : Type 0} → BookState A → Type 0
AreListed b = (unit : WorkUnit) (d : Done _) → IsUnit b unit → done_at b.done unit ≡ Some d → Contains (live_works b) d.work

-- what the laws of a book tell of its pairs
pub record ArePairs {A : Type 0} (b : BookState A) : Type 0 where
  pub listed : (unit : WorkUnit) (d : Done A) → IsUnit b unit → done_at b.done unit ≡ Some d → Contains (live_pairs b) (unit, d.work)
  pub units : (unit : WorkUnit) (work : Work A) → Contains (live_pairs b) (unit, work)
      → IsUnit b unit × (d : Done A) × (done_at b.done unit ≡ Some d) × (d.work ≡ work)
  pub once : IsDistinct same_unit (keys_of (live_pairs b))

-- what the laws tell of a finished book's table
pub record IsItsTable {A : Type 0} (m : Analysis A) (b : BookState A) : Type 0 where
  pub units : (unit : WorkUnit) → IsUnit b unit → (at : A) × (exit : Option A) × IsUnitOver m (table_of b.nodes) unit at exit
  pub known : (unit : WorkUnit) (at : A) (exit : Option A) → IsUnitOver m (table_of b.nodes) unit at exit → IsUnit b unit
  pub works : (unit : WorkUnit) (at : A) (exit : Option A) → IsUnitOver m (table_of b.nodes) unit at exit
      → (d : Done A) × (done_at b.done unit ≡ Some d) × (d.work ≡ m.work unit at exit)

-- the works of a closed book leave none open
pub none_open : {A : Type 0} (m : Analysis A) (nodes : List (Node × A)) (works : List (WorkUnit × Work A)) → IsClosedBook m nodes works
    → NoneIsOpen (values_of works)
none_open m nodes works closed work h =
    let (unit, there) = from_values works work h in
    let is = closed.units (unit, work) there in
    ap (λ (w : Work _). w.opens) is.is_work ∙ closed.closed.no_open unit is.at is.exit is.is_unit
