-- A closed book: a closed table with the works of its units.
use Rattle.std.specs.Prelude.{◌≡◌, ◌↔◌, Option, List, [], Contains}
use Rattle.std.specs.List.{IsDistinct}
use Rattle.std.specs.Map.{keys_of, lookup}
use Rattle.call_context.specs.declared.node.Node.{Node}
use Rattle.call_context.specs.declared.node.Unit.{Unit as WorkUnit}
use Rattle.chip_analysis.specs.Analysis.{Analysis}
use Rattle.chip_analysis.specs.Table.{IsUnitOver, IsClosedTable, IsFormedTable}
use Rattle.chip_analysis.specs.declared.chip.Work.{Work}
use Rattle.book_rules.specs.Same.{same_node, same_unit}

-- the chip's program with options, the nodes with their states, and the units with their works
pub record Closed (B A : Type 0) : Type 0 where
  pub base : B
  pub nodes : List (Node × A)
  pub works : List (WorkUnit × Work A)

-- the table of nodes with their states
abbrev pub table_in : {A : Type 0} → List (Node × A) → Node → Option A
table_in nodes node = lookup (same_node node) nodes

-- the members of one list are those of the other, in any order
abbrev pub HaveSame : {X : Type 0} → List X → List X → Type 0
HaveSame {X = X} xs ys = (x : X) → Contains xs x ↔ Contains ys x

-- the pair is a unit of the table with its work over the table's states
pub record IsUnitWithWork {A : Type 0} (a : Analysis A) (table : Node → Option A) (pair : WorkUnit × Work A) : Type 0 where
  pub at : A
  pub exit : Option A
  pub is_unit : IsUnitOver a table pair.0 at exit
  pub is_work : pair.1 ≡ a.work pair.0 at exit

-- The nodes are distinct, and their table has the form and is closed. Each unit of the table stands once, with its work
-- over the table's states, and nothing else stands there.
pub record IsClosedBook {A : Type 0} (a : Analysis A) (nodes : List (Node × A)) (works : List (WorkUnit × Work A)) : Type 0 where
  pub distinct : IsDistinct same_node (keys_of nodes)
  pub formed : IsFormedTable a (table_in nodes)
  pub closed : IsClosedTable a (table_in nodes)
  pub once : IsDistinct same_unit (keys_of works)
  pub units : (pair : WorkUnit × Work A) → Contains works pair → IsUnitWithWork a (table_in nodes) pair
  pub each : (unit : WorkUnit) (at : A) (exit : Option A) → IsUnitOver a (table_in nodes) unit at exit
      → Contains works (unit, a.work unit at exit)

-- no work leaves a site open
abbrev pub NoneIsOpen : {A : Type 0} → List (Work A) → Type 0
NoneIsOpen works = (work : Work _) → Contains works work → work.opens ≡ []
