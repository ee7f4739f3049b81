-- The table of a book, and where its works come from.
use Rattle.std.specs.Prelude.{◌≡◌, true, Option, Some, List}
use Rattle.std.specs.Option.{option_map}
use Rattle.call_context.specs.declared.node.Node.{Node}
use Rattle.call_context.specs.declared.node.Unit.{Unit as WorkUnit}
use Rattle.chip_analysis.specs.Analysis.{Analysis, AreFormed}
use Rattle.chip_analysis.specs.declared.chip.Work.{Work}
use Rattle.book_rules.specs.Machine.{Held, held_at, inputs_of}

-- a posted state is within what its node holds
abbrev pub IsUnder : {A : Type 0} → Analysis A → List (Held A) → Node × A → Type 0
IsUnder m hs post = (h : Held _) × (held_at hs post.0 ≡ Some h) × (m.within post.1 h.state ≡ true)

-- the work of a unit over the present states of its inputs
abbrev pub IsWorkOf : {A : Type 0} → Analysis A → List (Held A) → WorkUnit → Work A → Type 0
IsWorkOf {A = A} m nodes unit work = (inputs : A × Option A) × (inputs_of nodes unit ≡ Some inputs) × (work ≡ m.work unit inputs.0 inputs.1)

-- the work is that of a unit over some states, and the unit's nodes are in the book
pub record IsOfUnit {A : Type 0} (m : Analysis A) (nodes : List (Held A)) (work : Work A) : Type 0 where
  pub unit : WorkUnit
  pub at : A
  pub exit : Option A
  pub formed : AreFormed m unit at exit
  pub is_work : work ≡ m.work unit at exit
  pub held : (inputs : A × Option A) × (inputs_of nodes unit ≡ Some inputs)

-- the table of a book's nodes
abbrev pub table_of : {A : Type 0} → List (Held A) → Node → Option A
table_of nodes node = option_map (λ h. h.state) (held_at nodes node)
