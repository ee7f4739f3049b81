-- Tables from nodes to abstract states. A closed table stands for all that may happen: its works leave nothing open, and
-- lead only to what is in it.
use Rattle.std.specs.Prelude.{◌≡◌, true, Option, None, Some, List, [], Contains}
use Rattle.call_context.specs.declared.node.Frame.{Frame}
use Rattle.call_context.specs.declared.node.Node.{Node}
use Rattle.call_context.specs.declared.node.Node.TheVariants.{At, Exit}
use Rattle.call_context.specs.declared.node.Unit.{Unit as WorkUnit}
use Rattle.call_context.specs.declared.node.Unit.TheVariants.{One, Back}
use Rattle.chip_analysis.specs.Analysis.{Analysis}

module _ {A : Type 0} (a : Analysis A) (table : Node → Option A) where
  -- the location's work waits for the frame
  abbrev pub WaitsFor : Node → A → Frame → Type 0
  WaitsFor node at frame = Contains (a.work (One node) at None).waits frame

  -- A unit of a table with its input states: each location, and each location with each exit of a frame that its work
  -- waits for.
  abbrev pub IsUnitOver : WorkUnit → A → Option A → Type 0
  IsUnitOver (One (At pc calls frame)) at None = table (At pc calls frame) ≡ Some at
  IsUnitOver (One (At pc calls frame)) at (Some exit) = ⊥
  IsUnitOver (One (Exit pc frame)) at exit = ⊥
  IsUnitOver (Back (At pc calls frame) (Exit from left)) at (Some exit) =
      (table (At pc calls frame) ≡ Some at) × (table (Exit from left) ≡ Some exit) × WaitsFor (At pc calls frame) at left
  IsUnitOver (Back (At pc calls frame) (Exit from left)) at None = ⊥
  IsUnitOver (Back (At pc calls frame) (At from calls' frame')) at exit = ⊥
  IsUnitOver (Back (Exit pc frame) node) at exit = ⊥

  -- the table holds a state that this one is within
  abbrev pub IsHeldIn : Node → A → Type 0
  IsHeldIn node state = (held : A) × (table node ≡ Some held) × (a.within state held ≡ true)

  -- each state of the table has the form of its node
  abbrev pub IsFormedTable : Type 0
  IsFormedTable = (node : Node) (state : A) → table node ≡ Some state → a.HasForm node state

  -- The start is in the table, no work leaves a site open, and each post is within what the table holds.
  pub record IsClosedTable : Type 0 where
    pub started : IsHeldIn a.first_node a.first_state
    pub no_open : (unit : WorkUnit) (at : A) (exit : Option A) → IsUnitOver unit at exit → (a.work unit at exit).opens ≡ []
    pub posts_held : (unit : WorkUnit) (at : A) (exit : Option A) (node : Node) (state : A) → IsUnitOver unit at exit
        → Contains (a.work unit at exit).posts (node, state) → IsHeldIn node state
