-- A book that begins elsewhere: with nodes and works that are known. No unit is out of it between two turns.
use Rattle.std.specs.Prelude.{◌≡◌, ℕ, Bool, true, false, Some, List, [], ◌∷◌, map}
use Rattle.call_context.specs.declared.node.Frame.{Frame}
use Rattle.call_context.specs.declared.node.Node.{Node}
use Rattle.call_context.specs.declared.node.Node.TheVariants.{At, Exit}
use Rattle.call_context.specs.declared.node.Unit.{Unit as WorkUnit}
use Rattle.call_context.specs.declared.node.Unit.TheVariants as unit
use Rattle.chip_analysis.specs.Analysis.{Analysis}
use Rattle.chip_analysis.specs.declared.chip.Work.{Work}
use Rattle.book_rules.specs.declared.event.Event.TheVariants.{Claim, Post}
use Rattle.book_rules.specs.declared.versions.Versions.{Versions}
use Rattle.book_rules.specs.Machine.{BookState, Done, Held, after, place_of, waits_for, with_done, with_held, IsFirst, NoneClaimable}
use Rattle.book_rules.specs.Sound.{IsSound}
use Rattle.round_core.specs.declared.agenda.Agenda.{Agenda}
use Rattle.round_core.specs.declared.parts.Parts.{Parts}
use Rattle.round_core.specs.declared.place.Place.TheVariants as place
use Rattle.round_core.specs.Agenda.{IsIn, places_in}
use Rattle.round_core.specs.Shown.{Shows}

-- what contracts see of a renewal: the chip's program with options, and the book as it is
pub record Renewed (B A : Type 0) : Type 0 where
  pub base : B
  pub state : BookState A

-- the versions of a unit's inputs that rose once
abbrev pub first_versions : WorkUnit → Versions
first_versions (unit.One node) = record { at = 1; exit = 0 }
first_versions (unit.Back node exit) = record { at = 1; exit = 1 }

-- the own work of a location is a candidate at its place, and an exit is known by its place
abbrev pub Knows : Agenda → Node → ℕ → Type 0
Knows agenda (At pc calls frame) node = IsIn (place.One node) agenda.candidates.keys
Knows agenda (Exit pc frame) exit = IsIn exit (places_in agenda.exits frame)

module _ {A : Type 0} where
  -- a node that rose once, and a unit that was done over such nodes
  abbrev pub first_rise : Node × A → Held A
  first_rise row = record { node = row.0; state = row.1; rises = 1 }

  abbrev pub first_done : WorkUnit × Work A → Done A
  first_done pair = record { unit = pair.0; work = pair.1; versions = first_versions pair.0 }

  -- these nodes, each of which rose once, and these works over them
  abbrev pub begun : List (Node × A) → List (WorkUnit × Work A) → BookState A
  begun rows done = record { nodes = map first_rise rows; done = map first_done done; out = [] }

  -- the book that parts stand for while no unit is out
  abbrev pub state_of : Parts A → BookState A
  state_of p = record { nodes = p.nodes.rows; done = p.works.rows; out = [] }

  -- each node that has a place is known by it
  abbrev pub KnowsNodes : Parts A → Type 0
  KnowsNodes p = (node : Node) (at : ℕ) → place_of p.nodes.rows node ≡ Some at → Knows p.agenda node at

  -- each location that waits for a frame is known to, and the returns to it are candidates
  pub record KnowsWait (p : Parts A) (node : Node) (frame : Frame) : Type 0 where
    pub at : ℕ
    pub is_at : place_of p.nodes.rows node ≡ Some at
    pub waiting : IsIn at (places_in p.agenda.waiting frame)
    pub returns : (pc from : ℕ) → place_of p.nodes.rows (Exit pc frame) ≡ Some from → IsIn (place.Back at from) p.agenda.candidates.keys

  abbrev pub KnowsWaits : Parts A → Type 0
  KnowsWaits p = (node : Node) (frame : Frame) → waits_for p.works.rows node frame ≡ true → KnowsWait p node frame

  -- nothing is out, nothing was given back, and all that may be claimable is expected
  pub record IsBeginning (p : Parts A) : Type 0 where
    pub out : p.turns.out ≡ []
    pub returned : p.turns.returned ≡ []
    pub nodes : KnowsNodes p
    pub waits : KnowsWaits p

  -- nodes that take their rows one after the other, and units that take their works
  abbrev pub with_rows : List (Held A) → List (Node × A) → List (Held A)
  with_rows nodes [] = nodes
  with_rows nodes (row ∷ rows) = with_rows (with_held nodes (first_rise row)) rows

  abbrev pub with_works : List (Done A) → List (WorkUnit × Work A) → List (Done A)
  with_works done [] = done
  with_works done (pair ∷ pairs) = with_works (with_done done (first_done pair)) pairs

module _ {A : Type 0} (m : Analysis A) where
  -- the book behind a turn: a unit is claimed, and its work is posted
  abbrev pub turned : BookState A → WorkUnit → BookState A
  turned b unit = after m (after m b (Claim 0 unit)) (Post 0 unit)

  -- a turn: the first unit that can be claimed had it, or none can be claimed and nothing changed
  abbrev pub IsTurn : BookState A → BookState A → Bool → Type 0
  IsTurn old new true = (unit : WorkUnit) × IsFirst old unit × (new ≡ turned old unit)
  IsTurn old new false = NoneClaimable old × (new ≡ old)

  -- the parts stand for a sound book of which no unit is out
  pub record IsRenewing (p : Parts A) : Type 0 where
    pub shows : Shows (state_of p) p
    pub sound : IsSound m (state_of p)
