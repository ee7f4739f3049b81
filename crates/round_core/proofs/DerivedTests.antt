-- The derived tests of frames, nodes and units are the tests of the definitions, since both hold where the two are one.
use Rattle.std.specs.Prelude.{◌≡◌, Bool, true, false}
use Rattle.std.specs.Bool.{Decides}
use Rattle.std.proofs.Common.{refl, sym, subst}
use Rattle.call_context.specs.declared.node.Frame.{Frame}
use Rattle.call_context.specs.declared.node.Node.{Node}
use Rattle.call_context.specs.declared.node.Unit.{Unit as WorkUnit}
use Rattle.call_context.specs.contracts.node.FramePartialEq.TheImpl as frame_impl
use Rattle.call_context.specs.contracts.node.NodePartialEq.TheImpl as node_impl
use Rattle.call_context.specs.contracts.node.UnitPartialEq.TheImpl as unit_impl
use Rattle.book_rules.specs.Same.{same_frame, same_node, same_unit}
use Rattle.book_rules.specs.SameTests.{same_frame-eq, same_frame-refl, same_node-eq, same_node-refl, same_unit-eq, same_unit-refl}

abbrev pub frame_eq : Frame → Frame → Bool
frame_eq = (frame_impl.ghosts).eq

abbrev pub node_eq : Node → Node → Bool
node_eq = (node_impl.ghosts).eq

abbrev pub unit_eq : WorkUnit → WorkUnit → Bool
unit_eq = (unit_impl.ghosts).eq

-- what the law of call contexts says of a derived test
abbrev pub TellsEqual : {X : Type 0} → (X → X → Bool) → Type 0
TellsEqual {X} test = (a b : X) → Decides (test a b) (a ≡ b)

pub agree : {P : Type 0} (x y : Bool) → Decides x P → (y ≡ true → P) → (P → y ≡ true) → x ≡ y
agree true y d f g = sym (g (d.0 refl))
agree false true d f g = d.1 (f refl)
agree false false d f g = refl

pub frame_eq-same : TellsEqual frame_eq → (a b : Frame) → frame_eq a b ≡ same_frame a b
frame_eq-same tells a b =
    agree (frame_eq a b) (same_frame a b) (tells a b) (same_frame-eq a b) (λ e. subst (λ c. same_frame a c ≡ true) e (same_frame-refl a))

pub node_eq-same : TellsEqual node_eq → (a b : Node) → node_eq a b ≡ same_node a b
node_eq-same tells a b =
    agree (node_eq a b) (same_node a b) (tells a b) (same_node-eq a b) (λ e. subst (λ c. same_node a c ≡ true) e (same_node-refl a))

pub unit_eq-same : TellsEqual unit_eq → (a b : WorkUnit) → unit_eq a b ≡ same_unit a b
unit_eq-same tells a b =
    agree (unit_eq a b) (same_unit a b) (tells a b) (same_unit-eq a b) (λ e. subst (λ c. same_unit a c ≡ true) e (same_unit-refl a))
