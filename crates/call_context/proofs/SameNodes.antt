-- The derived tests of frames, nodes and units hold exactly where the two are one.
use Rattle.std.specs.Prelude.{◌≡◌, ℕ, Option, None, Some}
use Rattle.std.specs.Bool.{Decides}
use Rattle.std.specs.Option.{option_eq}
use Rattle.std.proofs.Common.{refl}
use Rattle.std.proofs.Math.Dec.{eqb}
use Rattle.std.proofs.lemmas.Bool.Decides.{Decides-eqb, Decides-and, Decides-like}
use Rattle.call_context.specs.declared.node.Frame.{Frame}
use Rattle.call_context.specs.declared.node.Frame.TheVariants.{Base, Irq}
use Rattle.call_context.specs.declared.node.Node.{Node}
use Rattle.call_context.specs.declared.node.Node.TheVariants.{At, Exit}
use Rattle.call_context.specs.declared.node.Unit.{Unit as WorkUnit}
use Rattle.call_context.specs.declared.node.Unit.TheVariants.{One, Back}
use Rattle.call_context.specs.contracts.node.FramePartialEq.TheImpl as frame_impl
use Rattle.call_context.specs.contracts.node.NodePartialEq.TheImpl as node_impl
use Rattle.call_context.specs.contracts.node.UnitPartialEq.TheImpl as unit_impl
use Rattle.call_context.proofs.SameItems.{apart, few_same}

sp_same : (s t : Option ℕ) → Decides (option_eq eqb s t) (s ≡ t)
sp_same None None = (λ e. refl, λ e. refl)
sp_same (Some a) (Some b) = Decides-like _ (λ e. cc e) (λ e. cc e) (Decides-eqb a b)
sp_same None (Some b) = apart (λ e. cc e)
sp_same (Some a) None = apart (λ e. cc e)

pub frame_same : (a b : Frame) → Decides ((frame_impl.ghosts).eq a b) (a ≡ b)
frame_same Base Base = (λ e. refl, λ e. refl)
frame_same Base (Irq v s l) = apart (λ e. cc e)
frame_same (Irq v s l) Base = apart (λ e. cc e)
frame_same (Irq v s l) (Irq v' s' l') = Decides-like _
    (λ parts. let v = parts.0 in let s = parts.1.0 in let l = parts.1.1 in cc (v, s, l))
    (λ e. (cc e, (cc e, cc e)))
    (Decides-and _ _ (Decides-eqb v v') (Decides-and _ _ (sp_same s s') (Decides-eqb l l')))

pub node_same : (a b : Node) → Decides ((node_impl.ghosts).eq a b) (a ≡ b)
node_same (At pc calls frame) (At pc' calls' frame') = Decides-like _
    (λ parts. let p = parts.0 in let c = parts.1.0 in let f = parts.1.1 in cc (p, c, f))
    (λ e. (cc e, (cc e, cc e)))
    (Decides-and _ _ (Decides-eqb pc pc') (Decides-and _ _ (few_same 8 calls calls') (frame_same frame frame')))
node_same (Exit pc frame) (Exit pc' frame') = Decides-like _
    (λ parts. let p = parts.0 in let f = parts.1 in cc (p, f))
    (λ e. (cc e, cc e))
    (Decides-and _ _ (Decides-eqb pc pc') (frame_same frame frame'))
node_same (At pc calls frame) (Exit pc' frame') = apart (λ e. cc e)
node_same (Exit pc frame) (At pc' calls' frame') = apart (λ e. cc e)

pub unit_same : (a b : WorkUnit) → Decides ((unit_impl.ghosts).eq a b) (a ≡ b)
unit_same (One n) (One m) = Decides-like _ (λ e. cc e) (λ e. cc e) (node_same n m)
unit_same (Back n x) (Back m y) = Decides-like _
    (λ parts. let n = parts.0 in let x = parts.1 in cc (n, x))
    (λ e. (cc e, cc e))
    (Decides-and _ _ (node_same n m) (node_same x y))
unit_same (One n) (Back m y) = apart (λ e. cc e)
unit_same (Back n x) (One m) = apart (λ e. cc e)
