-- The parts of nodes.
use Rattle.std.specs.Prelude.{ℕ, None, Some}
use Rattle.call_context.specs.declared.node.Frame.{Frame}
use Rattle.call_context.specs.declared.node.Frame.TheVariants.{Base, Irq}
use Rattle.call_context.specs.declared.node.Node.{Node}
use Rattle.call_context.specs.declared.node.Node.TheVariants.{At, Exit}

abbrev pub pc_of : Node → ℕ
pc_of (At pc calls frame) = pc
pc_of (Exit pc frame) = pc

abbrev pub frame_of : Node → Frame
frame_of (At pc calls frame) = frame
frame_of (Exit pc frame) = frame

-- a location, and no exit
abbrev pub IsLocation : Node → Type 0
IsLocation (At pc calls frame) = Unit {0}
IsLocation (Exit pc frame) = ⊥

-- an interrupt's frame that was entered at one stack pointer
abbrev pub HasEntry : Frame → Type 0
HasEntry Base = ⊥
HasEntry (Irq vector None level) = ⊥
HasEntry (Irq vector (Some sp) level) = Unit {0}
