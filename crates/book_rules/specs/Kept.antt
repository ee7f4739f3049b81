-- What contracts see of a book and of a ticket.
use Rattle.std.specs.Prelude.{◌≡◌, Bool, true, filter, map, Some, List, [], ◌∷◌, ◌++◌}
use Rattle.call_context.specs.declared.node.Unit.{Unit as WorkUnit}
use Rattle.call_context.specs.declared.node.Unit.TheVariants.{One, Back}
use Rattle.call_context.specs.declared.node.Node.{Node}
use Rattle.call_context.specs.Nodes.{frame_of}
use Rattle.chip_analysis.specs.declared.chip.Work.{Work}
use Rattle.book_rules.specs.declared.event.Event.{Event}
use Rattle.book_rules.specs.Machine.{BookState, Done, Out, out_at, waits_for}

-- A book is its chip's program with options, and its journal: all else follows.
pub record Kept (B : Type 0) : Type 0 where
  pub base : B
  pub journal : List Event

-- the nodes with their states
abbrev pub nodes_of : {A : Type 0} → BookState A → List (Node × A)
nodes_of b = map (λ h. (h.node, h.state)) b.nodes

-- the last work of each unit that was done
abbrev pub works_of : {A : Type 0} → BookState A → List (WorkUnit × Work A)
works_of b = map (λ d. (d.unit, d.work)) b.done

-- a book with one more event
abbrev pub with_event : {B : Type 0} → Kept B → Event → Kept B
with_event book event = record { base = book.base; journal = book.journal ++ event ∷ [] }

-- the ticket is a unit that is out of the book
abbrev pub IsOutOf : {A : Type 0} → BookState A → Out A → Type 0
IsOutOf b ticket = out_at b.out ticket.unit ≡ Some ticket

-- a return whose location no longer waits for the exit's frame is no unit of the book any more
abbrev pub is_live : {A : Type 0} → List (Done A) → WorkUnit → Bool
is_live done (One node) = true
is_live done (Back node exit) = waits_for done node (frame_of exit)

-- the book's units with their last works
abbrev pub live_pairs : {A : Type 0} → BookState A → List (WorkUnit × Work A)
live_pairs b = filter (λ p. is_live b.done p.0) (works_of b)

-- the last works of the book's units
abbrev pub live_works : {A : Type 0} → BookState A → List (Work A)
live_works b = map (λ p. p.1) (live_pairs b)
