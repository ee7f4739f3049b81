-- What a closed table, and a closed book, say of every run.
use Rattle.std.specs.Prelude.{◌≡◌, ℕ, Option, Some, List, Contains}
use Rattle.call_context.specs.declared.node.Node.{Node}
use Rattle.call_context.specs.declared.node.Unit.{Unit as WorkUnit}
use Rattle.call_context.specs.Nodes.{IsLocation}
use Rattle.call_context.specs.Showing.{AreShowing}
use Rattle.chip_numbers.specs.Single.{Single}
use Rattle.chip_analysis.specs.Analysis.{Analysis}
use Rattle.chip_law.specs.Laws.{Cover}
use Rattle.chip_law.specs.Machine.{Machine}
use Rattle.chip_law.specs.Runs.{RunsTo, Meets, GoesWild}
use Rattle.chip_analysis.specs.Table.{IsUnitOver}
use Rattle.chip_analysis.specs.declared.chip.Work.{Work}
use Rattle.closing_law.specs.Standing.{Stands}

-- the state stands under some location of the table, with some suspended states
pub record StandsSomewhere {S A : Type 0} (analysis : Analysis A) (covers : Cover S A) (table : Node → Option A) (s : S) : Type 0 where
  pub node : Node
  pub state : A
  pub suspended : List S
  pub is_location : IsLocation node
  pub is_held : table node ≡ Some state
  pub stands : Stands analysis covers table suspended node state s

-- a work of the table shows the item
pub record IsShown {A : Type 0} (analysis : Analysis A) (table : Node → Option A) (item : Single) : Type 0 where
  pub unit : WorkUnit
  pub at : A
  pub exit : Option A
  pub is_unit : IsUnitOver analysis table unit at exit
  pub shows : AreShowing (analysis.work unit at exit).items item

-- Every run stands, at each state, under some location of the table. What it meets is shown, and it stays in the model.
pub record CoversRuns {S A : Type 0} (machine : Machine S) (analysis : Analysis A) (covers : Cover S A) (table : Node → Option A) : Type 0 where
  pub stands : (n : ℕ) (s : S) → RunsTo machine n s → StandsSomewhere analysis covers table s
  pub shows : (n : ℕ) (item : Single) → Meets machine n item → IsShown analysis table item
  pub stays : (n : ℕ) → GoesWild machine n → ⊥

-- Whatever a run meets is shown by one of the works, and no run leaves the model.
pub record AreCovering {S A : Type 0} (machine : Machine S) (works : List (Work A)) : Type 0 where
  pub shows : (n : ℕ) (item : Single) → Meets machine n item
      → (work : Work A) × Contains works work × AreShowing work.items item
  pub stays : (n : ℕ) → GoesWild machine n → ⊥
