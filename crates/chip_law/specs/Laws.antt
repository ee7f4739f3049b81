-- What ties an analysis to its chip: that its start stands for each reset state and its work for each step. The laws speak
-- of one node, its abstract state, one single state, and the first suspended state alone. Nothing printed speaks of them.
-- What the analysis owes by itself stands in `chip_analysis/specs/Orderly.antt`.
use Rattle.std.specs.Prelude.{◌≡◌, ◌⊎◌, ℕ, true, Option, None, Some, List, [], Contains}
use Rattle.call_context.specs.declared.node.Frame.{Frame}
use Rattle.call_context.specs.declared.node.Frame.TheVariants.{Base, Irq}
use Rattle.call_context.specs.declared.node.Node.{Node}
use Rattle.call_context.specs.declared.node.Node.TheVariants.{Exit}
use Rattle.call_context.specs.declared.node.Unit.TheVariants.{One, Back}
use Rattle.call_context.specs.Nodes.{pc_of, frame_of, IsLocation}
use Rattle.chip_analysis.specs.declared.cause.Cause.{Cause}
use Rattle.chip_analysis.specs.declared.cause.Cause.TheVariants.{Fetch, Targets, Store}
use Rattle.chip_analysis.specs.declared.chip.Work.{Work}
use Rattle.chip_analysis.specs.Analysis.{Analysis}
use Rattle.chip_law.specs.Machine.{Machine}
use Rattle.call_context.specs.Showing.{AreShowing}
use Rattle.chip_numbers.specs.Single.{Single}
use Rattle.chip_numbers.specs.Single.Single.{Edge, Instr}
use Rattle.chip_law.specs.Outcome.{Leaving}
use Rattle.chip_law.specs.Outcome.Leaving.{entry_pushed, no_instruction, program_written}
use Rattle.chip_law.specs.Outcome.Outcome.{Next, Wild}

-- The abstract state of a node stands for a single state, where this one is the first that is suspended, if any is.
abbrev pub Cover : Type 0 → Type 0 → Type 1
Cover S A = Node → A → S → Option S → Type 0

-- A work waits for the frame of a handler that it enters, where the stack pointer there is known.
abbrev pub IsWaitedFor : {A : Type 0} → Work A → Frame → Type 0
IsWaitedFor work Base = ⊥
IsWaitedFor work (Irq vector (Some sp) level) = Contains work.waits (Irq vector (Some sp) level)
IsWaitedFor work (Irq vector None level) = Unit {0}

-- the cause of an open tells why a step leads out of the model
abbrev pub Tells : Cause → Leaving → Type 0
Tells Fetch no_instruction = Unit {0}
Tells Fetch (program_written at) = ⊥
Tells Fetch (entry_pushed at) = ⊥
Tells (Store values) no_instruction = ⊥
Tells (Store values) (program_written at) = Unit {0}
Tells (Store values) (entry_pushed at) = Unit {0}
Tells (Targets values) why = ⊥

-- some open of the work tells it
abbrev pub IsTold : {A : Type 0} → Work A → Leaving → Type 0
IsTold work why = (open_site : ℕ × Cause) × Contains work.opens open_site × Tells open_site.1 why

-- No instruction runs in the step: so it is where an interrupt is entered.
abbrev pub IsEntry : List Single → Type 0
IsEntry items = (pc : ℕ) (bytes : List ℕ) → Contains items (Instr pc bytes) → ⊥

module _ {S A : Type 0} (machine : Machine S) (analysis : Analysis A) (covers : Cover S A) where
  abbrev pub ShowsAll : Work A → List Single → Type 0
  ShowsAll work items = (item : Single) → Contains items item → AreShowing work.items item

  -- Where a step from s to t, under the first suspended state, lands among the posts of a work.
  pub data Lands (node : Node) (work : Work A) (s : S) (first : Option S) (items : List Single) (t : S) : Type 0 where
    -- at a location of the same frame
    stays : (to : Node) (state : A) → Contains work.posts (to, state) → IsLocation to → frame_of to ≡ frame_of node
        → covers to state t first → ShowsAll work items → Lands node work s first items t
    -- in an interrupt's handler, with s suspended
    enters : (to : Node) (state : A) → Contains work.posts (to, state) → IsLocation to → IsWaitedFor work (frame_of to)
        → IsEntry items → covers to state t (Some s) → ShowsAll work items → Lands node work s first items t
    -- at the exit of the frame: the edge to where it goes on is shown by the return
    leaves : (state : A) → Contains work.posts (Exit (pc_of node) (frame_of node), state)
        → covers (Exit (pc_of node) (frame_of node)) state t first
        → ((item : Single) → Contains items item → AreShowing work.items item ⊎ (item ≡ Edge (pc_of node) (machine.pc t)))
        → Lands node work s first items t

  -- what the return to a node from an exit gives, for the state t that the exit left
  pub record Resumes (node exit : Node) (work : Work A) (first : Option S) (t : S) : Type 0 where
    pub state : A
    pub posted : Contains work.posts (node, state)
    pub covered : covers node state t first
    pub shows : AreShowing work.items (Edge (pc_of exit) (machine.pc t))

  pub record IsLawful : Type 0 where
    -- THE START
    pub first_is_location : IsLocation analysis.first_node
    pub first_frame : frame_of analysis.first_node ≡ Base
    pub covers_reset : (s : S) → machine.IsReset s → covers analysis.first_node analysis.first_state s None
    -- THE WORK OF A LOCATION
    pub wild_is_told : (node : Node) (a : A) (s : S) (first : Option S) (why : Leaving) → IsLocation node
        → analysis.HasForm node a → covers node a s first → machine.Step s (Wild why)
        → IsTold (analysis.work (One node) a None) why
    pub step_lands : (node : Node) (a : A) (s : S) (first : Option S) (items : List Single) (t : S) → IsLocation node
        → analysis.HasForm node a → covers node a s first → machine.Step s (Next items t)
        → (analysis.work (One node) a None).opens ≡ []
        → Lands node (analysis.work (One node) a None) s first items t
    -- THE WORK OF A RETURN
    pub return_resumes : (node exit : Node) (a x : A) (f : S) (first : Option S) (t : S) → IsLocation node
        → ¬ IsLocation exit → analysis.HasForm node a → analysis.HasForm exit x → covers node a f first
        → covers exit x t (Some f) → Resumes node exit (analysis.work (Back node exit) a (Some x)) first t
    -- A STATE WITHIN ANOTHER
    pub covers_more : (node : Node) (a b : A) (s : S) (first : Option S) → analysis.HasForm node a
        → analysis.HasForm node b → analysis.within a b ≡ true → covers node a s first → covers node b s first
