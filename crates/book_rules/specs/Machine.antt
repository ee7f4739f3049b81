-- The book as a machine whose events are claims, posts and give-backs. Nodes stand in the order of their first post.
-- A node's version is how often its state rose. The rule of rises is a widening as in P. Cousot and R. Cousot,
-- "Abstract interpretation", 1977: joins first, then widenings, and in the end the top state.
use Rattle.std.specs.Prelude.{◌≡◌, ℕ, ◌+◌, ◌<◌, ◌⊎◌, Bool, true, false, nat_le, if◌then◌else◌, Option, None, Some, List, [], ◌∷◌, ◌++◌, unwrap_or, option_and_then, MatchOption}
use Rattle.std.specs.Option.{option_map}
use Rattle.std.specs.List.{list_any}
use Rattle.call_context.specs.declared.node.Frame.{Frame}
use Rattle.call_context.specs.declared.node.Node.{Node}
use Rattle.call_context.specs.declared.node.Node.TheVariants.{At, Exit}
use Rattle.call_context.specs.declared.node.Unit.{Unit as WorkUnit}
use Rattle.call_context.specs.declared.node.Unit.TheVariants.{One, Back}
use Rattle.book_rules.specs.Same.{same_frame, same_node, same_unit}
use Rattle.chip_analysis.specs.Analysis.{Analysis}
use Rattle.chip_analysis.specs.declared.chip.Work.{Work}
use Rattle.book_rules.specs.declared.versions.Versions.{Versions}
use Rattle.book_rules.specs.declared.event.Event.{Event}
use Rattle.book_rules.specs.declared.event.Event.TheVariants.{Claim, Post, GiveBack}

-- a node with its state, and how often that rose
pub record Held (A : Type 0) : Type 0 where
  pub node : Node
  pub state : A
  pub rises : ℕ

-- a unit that was done, with its last work and the versions of the inputs that it was done over
pub record Done (A : Type 0) : Type 0 where
  pub unit : WorkUnit
  pub work : Work A
  pub versions : Versions

-- A unit that is out, with its seat, copies of its input states and their versions, and the nodes as they were when it was
-- claimed. No event asks for those: whoever works on the unit may know what some of them held.
pub record Out (A : Type 0) : Type 0 where
  pub seat : ℕ
  pub unit : WorkUnit
  pub at : A
  pub exit : Option A
  pub versions : Versions
  pub nodes : List (Held A)

pub record BookState (A : Type 0) : Type 0 where
  pub nodes : List (Held A)
  pub done : List (Done A)
  pub out : List (Out A)

-- the entry of a node, of a unit that was done, and of one that is out
abbrev pub held_at : {A : Type 0} → List (Held A) → Node → Option (Held A)
held_at [] node = None
held_at (h ∷ hs) node = if same_node node h.node then Some h else held_at hs node

abbrev pub done_at : {A : Type 0} → List (Done A) → WorkUnit → Option (Done A)
done_at [] unit = None
done_at (d ∷ ds) unit = if same_unit unit d.unit then Some d else done_at ds unit

abbrev pub out_at : {A : Type 0} → List (Out A) → WorkUnit → Option (Out A)
out_at [] unit = None
out_at (o ∷ os) unit = if same_unit unit o.unit then Some o else out_at os unit

-- the place of a node
abbrev pub place_of : {A : Type 0} → List (Held A) → Node → Option ℕ
place_of [] node = None
place_of (h ∷ hs) node = if same_node node h.node then Some 0 else option_map (λ place. place + 1) (place_of hs node)

abbrev pub version_of : {A : Type 0} → List (Held A) → Node → ℕ
version_of nodes node = unwrap_or (option_map (λ h. h.rises) (held_at nodes node)) 0

abbrev pub versions_of : {A : Type 0} → List (Held A) → WorkUnit → Versions
versions_of nodes (One node) = record { at = version_of nodes node; exit = 0 }
versions_of nodes (Back node exit) = record { at = version_of nodes node; exit = version_of nodes exit }

-- the last work of the node's own unit waits for the frame
abbrev pub waits_for : {A : Type 0} → List (Done A) → Node → Frame → Bool
waits_for done node frame = unwrap_or (option_map (λ d. list_any (same_frame frame) d.work.waits) (done_at done (One node))) false

-- the own work of a location, or a return from an exit to a location
abbrev pub IsOfLocation : WorkUnit → Type 0
IsOfLocation (One (At pc calls frame)) = Unit {0}
IsOfLocation (One (Exit pc frame)) = ⊥
IsOfLocation (Back (At pc calls frame) (Exit from left)) = Unit {0}
IsOfLocation (Back (At pc calls frame) (At from calls' frame')) = ⊥
IsOfLocation (Back (Exit pc frame) exit) = ⊥

-- The units of a book: one for each location, and one for each location and each exit of a frame that the location's
-- last work waits for.
abbrev pub IsUnit : {A : Type 0} → BookState A → WorkUnit → Type 0
IsUnit b (One (At pc calls frame)) = (h : Held _) × (held_at b.nodes (At pc calls frame) ≡ Some h)
IsUnit b (One (Exit pc frame)) = ⊥
IsUnit b (Back (At pc calls frame) (Exit from left)) =
    (h : Held _) × (x : Held _) × (held_at b.nodes (At pc calls frame) ≡ Some h) × (held_at b.nodes (Exit from left) ≡ Some x)
    × (waits_for b.done (At pc calls frame) left ≡ true)
IsUnit b (Back (At pc calls frame) (At from calls' frame')) = ⊥
IsUnit b (Back (Exit pc frame) exit) = ⊥

-- some input rose since
abbrev pub HasRisen : Versions → Versions → Type 0
HasRisen before now = (before.at < now.at) ⊎ (before.exit < now.exit)

-- A unit can be claimed where it isn't out, and was never done or has an input that rose since.
pub record IsClaimable {A : Type 0} (b : BookState A) (unit : WorkUnit) : Type 0 where
  pub known : IsUnit b unit
  pub at_home : out_at b.out unit ≡ None
  pub due : MatchOption (done_at b.done unit) (Unit {0}) (λ d. HasRisen d.versions (versions_of b.nodes unit))

-- a place before another one
abbrev pub IsBelow : Option ℕ → Option ℕ → Type 0
IsBelow (Some a) (Some b) = a < b
IsBelow (Some a) None = ⊥
IsBelow None b = ⊥

-- Units of one node come by its place, and then returns by the places of node and exit.
abbrev pub ComesBefore : {A : Type 0} → List (Held A) → WorkUnit → WorkUnit → Type 0
ComesBefore nodes (One n) (One m) = IsBelow (place_of nodes n) (place_of nodes m)
ComesBefore nodes (One n) (Back m y) = Unit {0}
ComesBefore nodes (Back n x) (One m) = ⊥
ComesBefore nodes (Back n x) (Back m y) = IsBelow (place_of nodes n) (place_of nodes m)
    ⊎ ((place_of nodes n ≡ place_of nodes m) × IsBelow (place_of nodes x) (place_of nodes y))

-- the unit that the next claim takes
pub record IsFirst {A : Type 0} (b : BookState A) (unit : WorkUnit) : Type 0 where
  pub claimable : IsClaimable b unit
  pub least : (other : WorkUnit) → IsClaimable b other → ComesBefore b.nodes other unit → ⊥

abbrev pub NoneClaimable : {A : Type 0} → BookState A → Type 0
NoneClaimable b = (unit : WorkUnit) → IsClaimable b unit → ⊥

abbrev pub HasClaimable : {A : Type 0} → BookState A → Type 0
HasClaimable b = (unit : WorkUnit) × IsClaimable b unit

-- no unit is out, and none can be claimed
pub record IsFinished {A : Type 0} (b : BookState A) : Type 0 where
  pub none_out : b.out ≡ []
  pub none_claimable : NoneClaimable b

module _ {A : Type 0} (m : Analysis A) where
  -- the start node with one rise, and nothing else
  abbrev pub opening : BookState A
  opening = record { nodes = record { node = m.first_node; state = m.first_state; rises = 1 } ∷ []; done = []; out = [] }

  -- The state after one more rise: rises up to 15 join, those up to 47 widen to marks and those up to 63 to classes,
  -- and the 64th gives top.
  abbrev pub risen_state : Node → A → A → ℕ → A
  risen_state node held posted rises =
      if nat_le rises 15 then m.join held posted
      else if nat_le rises 47 then m.widen false held posted
      else if nat_le rises 63 then m.widen true held posted
      else m.top node

  -- a held node under a posted state: one that is within changes nothing
  abbrev pub risen : Held A → A → Held A
  risen h posted =
      if m.within posted h.state then h
      else record { node = h.node; state = risen_state h.node h.state posted (h.rises + 1); rises = h.rises + 1 }

  -- the nodes after one post: a new node gets the state
  abbrev pub raised : List (Held A) → Node × A → List (Held A)
  raised [] post = record { node = post.0; state = post.1; rises = 1 } ∷ []
  raised (h ∷ hs) post = if same_node post.0 h.node then risen h post.1 ∷ hs else h ∷ raised hs post

  -- after posts in their order
  abbrev pub all_raised : List (Held A) → List (Node × A) → List (Held A)
  all_raised nodes [] = nodes
  all_raised nodes (post ∷ posts) = all_raised (raised nodes post) posts

-- a node takes a state and a number of rises, in its place or last
abbrev pub with_held : {A : Type 0} → List (Held A) → Held A → List (Held A)
with_held [] held = held ∷ []
with_held (h ∷ hs) held = if same_node held.node h.node then held ∷ hs else h ∷ with_held hs held

-- a work becomes the last one of its unit, whose place among the done ones stays
abbrev pub with_done : {A : Type 0} → List (Done A) → Done A → List (Done A)
with_done [] done = done ∷ []
with_done (d ∷ ds) done = if same_unit done.unit d.unit then done ∷ ds else d ∷ with_done ds done

-- the units that are out, without one
abbrev pub without : {A : Type 0} → List (Out A) → WorkUnit → List (Out A)
without [] unit = []
without (o ∷ os) unit = if same_unit unit o.unit then os else o ∷ without os unit

-- the input states of a unit, where its nodes are there
abbrev pub inputs_of : {A : Type 0} → List (Held A) → WorkUnit → Option (A × Option A)
inputs_of nodes (One node) = option_map (λ h. (h.state, None)) (held_at nodes node)
inputs_of nodes (Back node exit) =
    option_and_then (λ h. option_map (λ x. (h.state, Some x.state)) (held_at nodes exit)) (held_at nodes node)

-- the units that are out behind a claim of one with these inputs
abbrev pub with_out : {A : Type 0} → BookState A → ℕ → WorkUnit → Option (A × Option A) → List (Out A)
with_out b seat unit None = b.out
with_out b seat unit (Some inputs) = b.out ++ record {
  seat = seat;
  unit = unit;
  at = inputs.0;
  exit = inputs.1;
  versions = versions_of b.nodes unit;
  nodes = b.nodes;
} ∷ []

-- the book behind the work of a unit that was out
abbrev pub posted : {A : Type 0} → Analysis A → BookState A → Option (Out A) → BookState A
posted m b None = b
posted m b (Some o) = let work = m.work o.unit o.at o.exit in record {
  nodes = all_raised m b.nodes work.posts;
  done = with_done b.done (record { unit = o.unit; work = work; versions = o.versions });
  out = without b.out o.unit;
}

-- the book behind an event
unfoldable pub after : {A : Type 0} → Analysis A → BookState A → Event → BookState A
after m b (Claim seat unit) = record b { out = with_out b seat unit (inputs_of b.nodes unit) }
after m b (Post seat unit) = posted m b (out_at b.out unit)
after m b (GiveBack seat unit) = record b { out = without b.out unit }

-- a unit is out to a seat
abbrev pub IsOutTo : {A : Type 0} → BookState A → ℕ → WorkUnit → Type 0
IsOutTo b seat unit = (o : Out _) × (out_at b.out unit ≡ Some o) × (o.seat ≡ seat)

-- an event that may come: a claim of the first unit, a post or a give-back of one that is out to that seat
abbrev pub IsLegal : {A : Type 0} → BookState A → Event → Type 0
IsLegal b (Claim seat unit) = IsFirst b unit
IsLegal b (Post seat unit) = IsOutTo b seat unit
IsLegal b (GiveBack seat unit) = IsOutTo b seat unit

-- the book behind events, from another one and from the opening
unfoldable pub replay_from : {A : Type 0} → Analysis A → BookState A → List Event → BookState A
replay_from m b [] = b
replay_from m b (event ∷ events) = replay_from m (after m b event) events

abbrev pub replay : {A : Type 0} → Analysis A → List Event → BookState A
replay m journal = replay_from m (opening m) journal

-- each event is legal at its place
unfoldable pub AllLegal : {A : Type 0} → Analysis A → BookState A → List Event → Type 0
AllLegal m b [] = Unit {0}
AllLegal m b (event ∷ events) = IsLegal b event × AllLegal m (after m b event) events

abbrev pub IsLegalJournal : {A : Type 0} → Analysis A → List Event → Type 0
IsLegalJournal m journal = AllLegal m (opening m) journal

-- no work of a unit of the book leaves a site open
abbrev pub HasNoOpen : {A : Type 0} → BookState A → Type 0
HasNoOpen b = (unit : WorkUnit) (d : Done _) → IsUnit b unit → done_at b.done unit ≡ Some d → d.work.opens ≡ []

pub record IsClosed {A : Type 0} (b : BookState A) : Type 0 where
  pub finished : IsFinished b
  pub no_open : HasNoOpen b
