-- What an agenda has to hold.
use Rattle.std.specs.Prelude.{◌≡◌, ℕ, true, List, Some}
use Rattle.call_context.specs.declared.node.Frame.{Frame}
use Rattle.call_context.specs.declared.node.Node.{Node}
use Rattle.call_context.specs.declared.node.Node.TheVariants.{At, Exit}
use Rattle.call_context.specs.declared.node.Unit.{Unit as WorkUnit}
use Rattle.call_context.specs.declared.node.Unit.TheVariants as unit
use Rattle.round_core.specs.declared.agenda.Agenda.{Agenda}
use Rattle.round_core.specs.declared.place.Place.TheVariants as place
use Rattle.book_rules.specs.declared.versions.Versions.{Versions}
use Rattle.book_rules.specs.Machine.{Done, HasRisen, Held, place_of, versions_of, waits_for}
use Rattle.round_core.specs.Agenda.{IsIn, places_in, KeepsPlaces, KeepsCandidates}
use Rattle.round_core.specs.Returns.{HasReturnsTo, HasReturnsFrom}

-- an agenda loses nothing
pub record Grows (old new : Agenda) : Type 0 where
  pub candidates : KeepsCandidates old.candidates.keys new.candidates.keys
  pub waiting : KeepsPlaces old.waiting new.waiting
  pub exits : KeepsPlaces old.exits new.exits

-- What may be claimable once a node at a place has risen is among the candidates: its own work, the returns to it
-- from exits that were known, and the returns from it to locations that were known to wait.
abbrev pub ExpectsNode : {A : Type 0} → List (Done A) → Agenda → Agenda → Node → ℕ → Type 0
ExpectsNode done old new (At pc calls frame) node = IsIn (place.One node) new.candidates.keys
    × ((left : Frame) → waits_for done (At pc calls frame) left ≡ true → HasReturnsTo new.candidates.keys node (places_in old.exits left))
ExpectsNode done old new (Exit pc frame) exit =
    IsIn exit (places_in new.exits frame) × HasReturnsFrom new.candidates.keys (places_in old.waiting frame) exit

-- each of the rows has its place, and what it may make claimable is expected
abbrev pub ExpectsRows : {A : Type 0} → List (Done A) → Agenda → Agenda → List (Held A) → List (Held A) → Type 0
ExpectsRows {A} done old new nodes rows =
    (row : Held A) → IsIn row rows → (place : ℕ) × (place_of nodes row.node ≡ Some place) × ExpectsNode done old new row.node place

-- A unit that comes home is a candidate where an input rose since it was claimed, and its location waits for the frames
-- of its work. Returns from exits that were known are candidates.
abbrev pub ExpectsUnit : {A : Type 0} → Agenda → Agenda → List (Held A) → WorkUnit → Versions → List Frame → Type 0
ExpectsUnit old new nodes (unit.One node) versions frames = (at : ℕ) → place_of nodes node ≡ Some at
    → (HasRisen versions (versions_of nodes (unit.One node)) → IsIn (place.One at) new.candidates.keys)
    × ((frame : Frame) → IsIn frame frames → IsIn at (places_in new.waiting frame))
    × ((frame : Frame) → IsIn frame frames → HasReturnsTo new.candidates.keys at (places_in old.exits frame))
ExpectsUnit old new nodes (unit.Back node exit) versions frames =
    (at from : ℕ) → place_of nodes node ≡ Some at → place_of nodes exit ≡ Some from
    → HasRisen versions (versions_of nodes (unit.Back node exit)) → IsIn (place.Back at from) new.candidates.keys
