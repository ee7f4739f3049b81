-- When a single state, with the states that are suspended, stands under a node of a table.
use Rattle.std.specs.Prelude.{◌≡◌, Option, None, Some, List, [], ◌∷◌}
use Rattle.call_context.specs.declared.node.Frame.{Frame}
use Rattle.call_context.specs.declared.node.Frame.TheVariants.{Base, Irq}
use Rattle.call_context.specs.declared.node.Node.{Node}
use Rattle.call_context.specs.Nodes.{frame_of, IsLocation}
use Rattle.chip_analysis.specs.Analysis.{Analysis}
use Rattle.chip_law.specs.Laws.{Cover}
use Rattle.chip_analysis.specs.Table.{WaitsFor}

module _ {S A : Type 0} (analysis : Analysis A) (covers : Cover S A) (table : Node → Option A) where
  -- A suspended state is where a frame says: under a location that waits for it, where the frame was entered at one
  -- stack pointer. Of other frames nothing is said. P says what stands under a node and its state.
  abbrev pub IsSuspended : Frame → (Node → A → Type 0) → Type 0
  IsSuspended Base P = ⊥
  IsSuspended (Irq vector None level) P = Unit {0}
  IsSuspended (Irq vector (Some sp) level) P = (node : Node) × (a : A) × IsLocation node × (table node ≡ Some a)
      × WaitsFor analysis table node a (Irq vector (Some sp) level) × P node a

  -- a state with the states that are suspended, the last one first, stands under a node
  abbrev pub Stands : List S → Node → A → S → Type 0
  Stands [] node a s = (frame_of node ≡ Base) × covers node a s None
  Stands (f ∷ fs) node a s = covers node a s (Some f) × IsSuspended (frame_of node) (λ n b. Stands fs n b f)
