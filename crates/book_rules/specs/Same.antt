-- Tests of whether two nodes or units are one.
use Rattle.std.specs.Prelude.{ℕ, ◌==◌, ◌&&◌, Bool, true, false, Option, None, Some, List, [], ◌∷◌}
use Rattle.call_context.specs.declared.node.Frame.{Frame}
use Rattle.call_context.specs.declared.node.Frame.TheVariants.{Base, Irq}
use Rattle.call_context.specs.declared.node.Node.{Node}
use Rattle.call_context.specs.declared.node.Node.TheVariants.{At, Exit}
use Rattle.call_context.specs.declared.node.Unit.{Unit as WorkUnit}
use Rattle.call_context.specs.declared.node.Unit.TheVariants.{One, Back}

abbrev pub same_numbers : List ℕ → List ℕ → Bool
same_numbers [] [] = true
same_numbers (a ∷ as') (b ∷ bs) = (a == b) && same_numbers as' bs
same_numbers [] (b ∷ bs) = false
same_numbers (a ∷ as') [] = false

abbrev pub same_sp : Option ℕ → Option ℕ → Bool
same_sp None None = true
same_sp (Some a) (Some b) = a == b
same_sp None (Some b) = false
same_sp (Some a) None = false

abbrev pub same_frame : Frame → Frame → Bool
same_frame Base Base = true
same_frame (Irq vector sp level) (Irq vector' sp' level') = (vector == vector') && same_sp sp sp' && (level == level')
same_frame Base (Irq vector' sp' level') = false
same_frame (Irq vector sp level) Base = false

abbrev pub same_node : Node → Node → Bool
same_node (At pc calls frame) (At pc' calls' frame') = (pc == pc') && same_numbers calls calls' && same_frame frame frame'
same_node (Exit pc frame) (Exit pc' frame') = (pc == pc') && same_frame frame frame'
same_node (At pc calls frame) (Exit pc' frame') = false
same_node (Exit pc frame) (At pc' calls' frame') = false

abbrev pub same_unit : WorkUnit → WorkUnit → Bool
same_unit (One n) (One m) = same_node n m
same_unit (Back n x) (Back m y) = same_node n m && same_node x y
same_unit (One n) (Back m y) = false
same_unit (Back n x) (One m) = false
