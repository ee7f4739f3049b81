-- What an analysis makes of a program, in abstract states (G. Balakrishnan and T. Reps, "WYSINWYX: What You See Is Not
-- What You eXecute", 2010: abstract interpretation over value sets with call strings). It fixes what a report prints.
use Rattle.std.specs.Prelude.{ℕ, ◌≡◌, Bool, true, Option, None, Some, List, Contains}
use Rattle.call_context.specs.declared.node.Node.{Node}
use Rattle.call_context.specs.declared.node.Node.TheVariants.{At, Exit}
use Rattle.call_context.specs.declared.node.Unit.{Unit as WorkUnit}
use Rattle.call_context.specs.declared.node.Unit.TheVariants.{One, Back}
use Rattle.chip_analysis.specs.declared.cause.Cause.{Cause}
use Rattle.chip_analysis.specs.declared.chip.Work.{Work}

-- A are the abstract states
pub record Analysis (A : Type 0) : Type 1 where
  -- the node and the state that each run begins in
  pub first_node : Node
  pub first_state : A
  -- the work of a unit over its input states; the second one is the exit's, for a return
  pub work : WorkUnit → A → Option A → Work A
  -- whether the first is within the second
  pub within : A → A → Bool
  -- the held state and a posted one, joined, or widened to marks or, where the test holds, to whole classes
  pub join : A → A → A
  pub widen : Bool → A → A → A
  -- the state of all that may stand at a node
  pub top : Node → A
  -- a node and a state as the analysis makes them: numbers in range, sets in their normal shape
  pub HasForm : Node → A → Type 0
  -- at a node, by its state, the stated limit that an open names is broken
  pub Breaks : Node → A → Cause → Type 0

module _ {A : Type 0} (a : Analysis A) where
  -- the input states of a unit have the form of their nodes
  abbrev pub AreFormed : WorkUnit → A → Option A → Type 0
  AreFormed (One (At pc calls frame)) at None = a.HasForm (At pc calls frame) at
  AreFormed (One (At pc calls frame)) at (Some exit) = ⊥
  AreFormed (One (Exit pc frame)) at exit = ⊥
  AreFormed (Back (At pc calls frame) (Exit from left)) at (Some exit) = a.HasForm (At pc calls frame) at × a.HasForm (Exit from left) exit
  AreFormed (Back (At pc calls frame) (Exit from left)) at None = ⊥
  AreFormed (Back (At pc calls frame) (At from calls' frame')) at exit = ⊥
  AreFormed (Back (Exit pc frame) node) at exit = ⊥

  -- what starts in the form stays in it
  pub record KeepsForm : Type 0 where
    pub start : a.HasForm a.first_node a.first_state
    pub posts : (unit : WorkUnit) (at : A) (exit : Option A) (to : Node) (state : A) → AreFormed unit at exit
        → Contains (a.work unit at exit).posts (to, state) → a.HasForm to state
    pub joined : (node : Node) (held posted : A) → a.HasForm node held → a.HasForm node posted
        → a.HasForm node (a.join held posted)
    pub widened : (coarse : Bool) (node : Node) (held posted : A) → a.HasForm node held → a.HasForm node posted
        → a.HasForm node (a.widen coarse held posted)
    pub topped : (node : Node) (held : A) → a.HasForm node held → a.HasForm node (a.top node)

  -- each state of the form is within top
  abbrev pub TopIsGreatest : Type 0
  TopIsGreatest = (node : Node) (state : A) → a.HasForm node state → a.within state (a.top node) ≡ true

  -- Within orders the states of the form, and both operands are within what a join or a widening gives.
  pub record IsOrdered : Type 0 where
    pub itself : (node : Node) (x : A) → a.HasForm node x → a.within x x ≡ true
    pub along : (node : Node) (x y z : A) → a.HasForm node x → a.HasForm node y → a.HasForm node z
        → a.within x y ≡ true → a.within y z ≡ true → a.within x z ≡ true
    pub held_joined : (node : Node) (held posted : A) → a.HasForm node held → a.HasForm node posted
        → a.within held (a.join held posted) ≡ true
    pub posted_joined : (node : Node) (held posted : A) → a.HasForm node held → a.HasForm node posted
        → a.within posted (a.join held posted) ≡ true
    pub held_widened : (coarse : Bool) (node : Node) (held posted : A) → a.HasForm node held → a.HasForm node posted
        → a.within held (a.widen coarse held posted) ≡ true
    pub posted_widened : (coarse : Bool) (node : Node) (held posted : A) → a.HasForm node held → a.HasForm node posted
        → a.within posted (a.widen coarse held posted) ≡ true
    pub topped : TopIsGreatest

-- Two programs under the same rules and limits: a state keeps its form, and within is the same test.
pub record AreAlike {A : Type 0} (a b : Analysis A) : Type 0 where
  pub same_form : (node : Node) (state : A) → a.HasForm node state → b.HasForm node state
  pub same_within : (x y : A) → a.within x y ≡ b.within x y
