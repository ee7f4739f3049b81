-- Exits by their frames: where the next one of each stands, and those of some frames.
use Rattle.std.specs.Prelude.{◌≡◌, ℕ, suc, ◌<◌, ◌≤◌, Bool, true, min, if◌then◌else◌, Some, List, [], ◌∷◌, filter, get_or, drop, length, map, unwrap_or}
use Rattle.std.specs.List.{AllByRecursion, list_any}
use Rattle.std.specs.Map.{lookup}
use Rattle.call_context.specs.Nodes.{frame_of}
use Rattle.call_context.specs.declared.node.Frame.{Frame}
use Rattle.call_context.specs.declared.node.Node.{Node}
use Rattle.call_context.specs.declared.node.Node.TheVariants.{At, Exit}
use Rattle.call_context.specs.declared.node.Unit.TheVariants.{Back}
use Rattle.book_rules.specs.Same.{same_frame}
use Rattle.cert_check.specs.Refusal.{Input}
use Rattle.cert_check.specs.declared.exits.Cursor.{Cursor}

-- the return to a location from an exit
abbrev pub returned : {A : Type 0} → Node → A → (exit : Node × A) → List (Input A)
returned node state (At pc calls frame, left) = []
returned node state (Exit pc frame, left) = record { unit = Back node (Exit pc frame); at = state; exit = Some left } ∷ []

-- the rows of some frames
abbrev pub is_due : {A : Type 0} → List Frame → Node × A → Bool
is_due frames row = list_any (same_frame (frame_of row.0)) frames

abbrev pub due_rows : {A : Type 0} → List Frame → List (Node × A) → List (Node × A)
due_rows frames rows = filter (is_due frames) rows

-- the place of the first row of a frame, counted from this one, or that behind the rows where none has it
abbrev pub first_at : {A : Type 0} → Frame → (place : ℕ) → List (Node × A) → ℕ
first_at frame place [] = place
first_at frame place (row ∷ rows) = if same_frame (frame_of row.0) frame then place else first_at frame (suc place) rows

-- for each row the place of the next one of its frame
abbrev pub nexts_of : {A : Type 0} → (place : ℕ) → List (Node × A) → List ℕ
nexts_of place [] = []
nexts_of place (row ∷ rows) = first_at (frame_of row.0) (suc place) rows ∷ nexts_of (suc place) rows

-- the place that is held for a frame is the first one, and none is held where it is the end
abbrev pub AreFirsts : {A : Type 0} → (Frame → Frame → Bool) → List (Frame × ℕ) → (end place : ℕ) → List (Node × A) → Type 0
AreFirsts eq firsts end place rows = (frame : Frame) → unwrap_or (lookup (eq frame) firsts) end ≡ first_at frame place rows

-- CURSORS

abbrev pub frames_of : List Cursor → List Frame
frames_of cursors = map (λ cursor. cursor.frame) cursors

-- each stands at the first row of its frame
abbrev pub StandsAt : {A : Type 0} → (place : ℕ) → List (Node × A) → Cursor → Type 0
StandsAt place rows cursor = cursor.place ≡ first_at cursor.frame place rows

-- the first cursors of some frames
abbrev pub cursors_at : {A : Type 0} → (place : ℕ) → List (Node × A) → List Frame → List Cursor
cursors_at place rows frames = map (λ frame. record { frame = frame; place = first_at frame place rows }) frames

-- a cursor that stands at a row of this frame goes on
abbrev pub moved : Frame → (next : ℕ) → Cursor → Cursor
moved frame next cursor = if same_frame frame cursor.frame then record cursor { place = next } else cursor

-- the least of a place and those of some cursors
abbrev pub least_place : ℕ → List Cursor → ℕ
least_place least [] = least
least_place least (cursor ∷ cursors) = least_place (min least cursor.place) cursors

-- the cursors stand at the rows from a place on, where the first of their frames stands
pub record AreNext {A : Type 0} (rows : List (Node × A)) (cursors : List Cursor) (place : ℕ) : Type 0 where
  pub within : place ≤ length rows
  pub stand : AllByRecursion (StandsAt place (drop place rows)) cursors
  pub due : place < length rows → (row : Node × A) → is_due (frames_of cursors) (get_or rows place row) ≡ true
