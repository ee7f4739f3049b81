-- Which sets works show as stack pointers.
use Rattle.std.proofs.Common.{ℕ, ◌++◌, Bool, true, false, Option, None, Some, List, [], ◌∷◌, Contains}
use Rattle.std.specs.Prelude.{if◌then◌else◌}
use Rattle.std.specs.List.{AllByRecursion, flat_map}
use Rattle.std.proofs.lemmas.List.Elements.{All-contains, All-from_recursion}
use Rattle.call_context.specs.declared.node.Frame.{Frame}
use Rattle.call_context.specs.declared.node.Frame.TheVariants.{Base, Irq}
use Rattle.call_context.specs.declared.node.Node.{Node}
use Rattle.call_context.specs.declared.node.Node.TheVariants.{At, Exit}
use Rattle.call_context.specs.declared.node.Unit.{Unit as WorkUnit}
use Rattle.call_context.specs.declared.node.Unit.TheVariants.{One, Back}
use Rattle.call_context.specs.declared.shown.Item.{Item}
use Rattle.call_context.specs.declared.shown.Item.TheVariants as items
use Rattle.call_context.specs.declared.shown.Set.{Set}
use Rattle.chip_analysis.specs.declared.chip.Work.{Work}
use Rattle.unit_ways.specs.Ways.{Way, edges_of, ways_of, ways_to}
use Rattle.chip_flow.specs.Calls.{Site}
use Rattle.chip_flow.specs.Flow.{Flow}
use Rattle.chip_flow.specs.Going.{going_by}
use Rattle.chip_flow.specs.Works.{may_be, nothing, resumption, return_work, site_of, work_at, work_of}
use Rattle.chip_flow.specs.declared.going.Onward.{Onward}
use Rattle.chip_flow.specs.declared.going.Onward.TheVariants.{Leaves, Open, Lands, Jumps}

module _ (Is : Set → Type 0) where
  -- if it shows a stack pointer, it shows such a set
  abbrev pub IsStackOf : Item → Type 0
  IsStackOf (items.Stack pc set) = Is set
  IsStackOf (items.Instr pc bytes) = Unit {0}
  IsStackOf (items.Edge origin target) = Unit {0}
  IsStackOf (items.Access pc space write size at) = Unit {0}

  abbrev pub AreStacksOf : List Item → Type 0
  AreStacksOf = AllByRecursion IsStackOf

  pub both_stacks : (xs ys : List Item) → AreStacksOf xs → AreStacksOf ys → AreStacksOf (xs ++ ys)
  both_stacks [] ys first second = second
  both_stacks (x ∷ xs) ys first second = (first.0, both_stacks xs ys first.1 second)

  each_stack : {X : Type 0} (f : X → List Item) (xs : List X) → ((x : X) → AreStacksOf (f x)) → AreStacksOf (flat_map f xs)
  each_stack f [] each = tt
  each_stack f (x ∷ xs) each = both_stacks (f x) (flat_map f xs) (each x) (each_stack f xs each)

  edge_stacks : {A : Type 0} (pc : ℕ) (ways : List (Way A)) → AreStacksOf (edges_of pc ways)
  edge_stacks pc [] = tt
  edge_stacks pc (way ∷ ways) = (tt, edge_stacks pc ways)

  going_stacks : {A : Type 0} (joined : A → A → A) (site : Site) (onward : Onward A) → AreStacksOf (going_by joined site onward).edges
  going_stacks joined site (Leaves a) = tt
  going_stacks joined site (Open targets) = tt
  going_stacks joined site (Lands targets a) = edge_stacks site.pc (ways_to targets a)
  going_stacks joined site (Jumps behind target on jumped) = edge_stacks site.pc (ways_of joined behind target on jumped)

  either_work : {A : Type 0} (is : Bool) (x y : Work A) → AreStacksOf x.items → AreStacksOf y.items
      → AreStacksOf (if is then x else y).items
  either_work true x y first second = first
  either_work false x y first second = second

  -- the stack pointers of a chip are such sets, and neither an entry nor the accesses of an instruction show another
  pub record ShowsStacks {A I C : Type 0} (flow : Flow A I C) : Type 0 where
    pub stack : (a : A) → Is (flow.stack a)
    pub entry : (pc : ℕ) (coming : C) → AreStacksOf (flow.entry_items pc coming)
    pub accesses : (frame : Frame) (a : A) (pc : ℕ) (instr : I) → AreStacksOf (flow.followed frame a pc instr).accesses

  module _ {A I C : Type 0} (joined : A → A → A) (flow : Flow A I C) (shows : ShowsStacks flow) where
    entering_stacks : (pc : ℕ) (a : A) (accesses : List Item) → AreStacksOf accesses
        → AreStacksOf (accesses ++ items.Stack pc (flow.stack a) ∷ flat_map (flow.entry_items pc) (flow.comings a))
    entering_stacks pc a accesses own = both_stacks accesses (items.Stack pc (flow.stack a) ∷ flat_map (flow.entry_items pc) (flow.comings a)) own
        (shows.stack a, each_stack (flow.entry_items pc) (flow.comings a) (shows.entry pc))

    location_stacks : (pc : ℕ) (calls : List ℕ) (frame : Frame) (a : A) (found : Option I)
        → AreStacksOf (work_at joined flow pc calls frame a found).items
    location_stacks pc calls frame a None = entering_stacks pc a [] tt
    location_stacks pc calls frame a (Some instr) =
        let made = flow.followed frame a pc instr in
        both_stacks (made.accesses ++ items.Stack pc (flow.stack a) ∷ flat_map (flow.entry_items pc) (flow.comings a)) _
        (entering_stacks pc a made.accesses (shows.accesses frame a pc instr)) (tt, going_stacks joined (site_of flow pc calls frame instr) made.onward)

    back_stacks : (pc : ℕ) (calls : List ℕ) (frame : Frame) (exit_node : Node) (a : A) (exit : Option A)
        → AreStacksOf (return_work flow pc calls frame exit_node a exit).items
    back_stacks pc calls frame (Exit from (Irq vector (Some sp) level)) a (Some exit) = either_work (may_be (flow.stack a) sp) _ nothing (tt, tt) tt
    back_stacks pc calls frame (Exit from (Irq vector (Some sp) level)) a None = tt
    back_stacks pc calls frame (Exit from (Irq vector None level)) a exit = tt
    back_stacks pc calls frame (Exit from Base) a exit = tt
    back_stacks pc calls frame (At from others frame_so) a exit = tt

    unit_stacks : (unit : WorkUnit) (a : A) (exit : Option A) → AreStacksOf (work_of joined flow unit a exit).items
    unit_stacks (One (At pc calls frame)) a exit = location_stacks pc calls frame a (flow.fetched pc)
    unit_stacks (One (Exit pc frame)) a exit = tt
    unit_stacks (Back (At pc calls frame) other) a exit = back_stacks pc calls frame other a exit
    unit_stacks (Back (Exit pc frame) other) a exit = tt

    -- each stack pointer that a work shows is such a set
    pub stacks_shown : (unit : WorkUnit) (a : A) (exit : Option A) (pc : ℕ) (set : Set)
        → Contains (work_of joined flow unit a exit).items (items.Stack pc set) → Is set
    stacks_shown unit a exit pc set there =
        let all = (work_of joined flow unit a exit).items in
        All-contains IsStackOf all (items.Stack pc set) (All-from_recursion IsStackOf all (unit_stacks unit a exit)) there
