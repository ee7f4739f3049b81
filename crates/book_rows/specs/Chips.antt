-- Small chips for rows, whose states are numbers. One counts, one loops, one counts at two locations, one never comes to rest, and
-- the others have a chain of locations, a tree, an interrupt, and locations that race.
use Rattle.std.specs.Prelude.{ℕ, ◌+◌, ◌*◌, ◌≤◌, ◌==◌, Bool, true, false, Some, nat_le, nat_lt, if◌then◌else◌, List, [], ◌∷◌, max, min}
use Rattle.book_rows.specs.declared.shape.Shape.{Shape}
use Rattle.book_rows.specs.declared.shape.Shape.TheVariants.{Counting, Loop, Pair, Restless, Chain, Tree, Interrupted, Racing}
use Rattle.call_context.specs.declared.node.Frame.{Frame}
use Rattle.call_context.specs.declared.node.Frame.TheVariants.{Base, Irq}
use Rattle.call_context.specs.declared.node.Node.{Node}
use Rattle.call_context.specs.declared.node.Node.TheVariants.{At, Exit}
use Rattle.call_context.specs.declared.node.Unit.{Unit as WorkUnit}
use Rattle.call_context.specs.declared.node.Unit.TheVariants.{One, Back}
use Rattle.chip_analysis.specs.Analysis.{Analysis}
use Rattle.chip_analysis.specs.declared.chip.Work.{Work}

abbrev pub node_at : ℕ → Node
node_at pc = At pc [] Base

-- a work with posts alone
abbrev pub posting : List (Node × ℕ) → Work ℕ
posting posts = record { items = []; posts = posts; waits = []; opens = [] }

abbrev pub least : ℕ → ℕ
least n = min n 4294967295

-- a number plus one, where that is a number
abbrev pub counting : ℕ → Work ℕ
counting at = posting ((node_at 0, least (at + 1)) ∷ [])

-- location 0 leads to 1 and 2, each of which posts its number plus one to itself
abbrev pub pairing : ℕ → ℕ → Work ℕ
pairing pc at =
    if pc == 0 then posting ((node_at 1, 0) ∷ (node_at 2, 0) ∷ [])
    else posting ((node_at pc, least (at + 1)) ∷ [])

-- each location but the last posts 0 to the next
abbrev pub leading : ℕ → ℕ → Work ℕ
leading end pc = if nat_lt pc end then posting ((node_at (pc + 1), 0) ∷ []) else posting []

-- location n leads to 2n + 1 and 2n + 2, up to the last
abbrev pub branching : ℕ → ℕ → Work ℕ
branching end pc =
    if nat_le (2 * pc + 2) end then posting ((node_at (2 * pc + 1), 0) ∷ (node_at (2 * pc + 2), 0) ∷ [])
    else posting []

abbrev pub handler_frame : Frame
handler_frame = Irq 1 (Some 640) 0

-- what the first location does: it posts twice to location 4, enters the handler at 8, and waits for its frame
abbrev pub entering : Work ℕ
entering = record {
  items = [];
  posts = (node_at 4, 1) ∷ (node_at 4, 2) ∷ (At 8 [] handler_frame, 0) ∷ [];
  waits = handler_frame ∷ [];
  opens = [];
}

-- Location 0 enters, the handler leaves its frame, and the return goes on at location 4.
abbrev pub interrupted : WorkUnit → Work ℕ
interrupted (One (At pc calls Base)) = if pc == 0 then entering else posting []
interrupted (One (At pc calls (Irq vector sp level))) = posting ((Exit 8 handler_frame, 0) ∷ [])
interrupted (One (Exit pc frame)) = posting []
interrupted (Back node exit) = posting ((node_at 4, 3) ∷ [])

-- Locations 1 and 2 post to 3, the first one a greater number, and 3 posts a small number back to both.
abbrev pub racing : ℕ → ℕ → Work ℕ
racing pc at =
    if pc == 0 then posting ((node_at 1, 0) ∷ (node_at 2, 0) ∷ [])
    else (if pc == 1 then posting ((node_at 3, least (least (at * 2) + 2)) ∷ [])
    else (if pc == 2 then posting ((node_at 3, least (at + 1)) ∷ [])
    else (if nat_lt at 4 then posting ((node_at 1, at) ∷ (node_at 2, at) ∷ []) else posting [])))

-- what a location of a shape posts
abbrev pub location_work : Shape → ℕ → ℕ → Work ℕ
location_work Counting pc at = counting at
location_work Loop pc at = posting ((node_at 0, 1) ∷ [])
location_work Pair pc at = pairing pc at
location_work Restless pc at = counting at
location_work (Chain end) pc at = leading end pc
location_work (Tree end) pc at = branching end pc
location_work Interrupted pc at = posting []
location_work Racing pc at = racing pc at

abbrev pub located : Shape → WorkUnit → ℕ → Work ℕ
located shape (One (At pc calls frame)) at = location_work shape pc at
located shape (One (Exit pc frame)) at = posting []
located shape (Back node exit) at = posting []

abbrev pub work_of : Shape → WorkUnit → ℕ → Work ℕ
work_of Counting unit at = located Counting unit at
work_of Loop unit at = located Loop unit at
work_of Pair unit at = located Pair unit at
work_of Restless unit at = located Restless unit at
work_of (Chain end) unit at = located (Chain end) unit at
work_of (Tree end) unit at = located (Tree end) unit at
work_of Interrupted unit at = interrupted unit
work_of Racing unit at = located Racing unit at

-- a number is within each that is no less; of the restless chip none is within another
abbrev pub within_of : Shape → ℕ → ℕ → Bool
within_of Counting = nat_le
within_of Loop = nat_le
within_of Pair = nat_le
within_of Restless = λ new held. false
within_of (Chain end) = nat_le
within_of (Tree end) = nat_le
within_of Interrupted = nat_le
within_of Racing = nat_le

abbrev pub small : Shape → Analysis ℕ
small shape = record {
  first_node = node_at 0;
  first_state = 0;
  work = λ unit at exit. work_of shape unit at;
  within = within_of shape;
  join = max;
  widen = λ coarse. max;
  top = λ node. 4294967295;
  HasForm = λ node a. a ≤ 4294967295;
  Breaks = λ node a cause. ⊥;
}
