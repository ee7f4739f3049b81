-- Candidates, and the nodes that meet at a frame.
use Rattle.std.specs.Prelude.{◌≡◌, ℕ, ◌⊎◌, List, [], ◌∷◌, unwrap_or, map, Vec}
use Rattle.std.specs.declared.alloc.Global.{Global}
use Rattle.std.specs.Map.{lookup}
use Rattle.call_context.specs.declared.node.Frame.{Frame}
use Rattle.book_rules.specs.Same.{same_frame}
use Rattle.round_core.specs.declared.place.Place.{Place}

-- an element of a list
abbrev pub IsIn : {X : Type 0} → X → List X → Type 0
IsIn x [] = ⊥
IsIn x (y ∷ ys) = (x ≡ y) ⊎ IsIn x ys

-- no element stands twice
abbrev pub AreDifferent : {X : Type 0} → List X → Type 0
AreDifferent [] = Unit {0}
AreDifferent (x ∷ xs) = (IsIn x xs → ⊥) × AreDifferent xs

-- the places that are kept for a frame
abbrev pub places_in : List (Frame × List ℕ) → Frame → List ℕ
places_in es frame = unwrap_or (lookup (same_frame frame) es) []

-- vectors as lists
abbrev pub seen : List (Frame × Vec ℕ Global) → List (Frame × List ℕ)
seen es = map (λ e. (e.0, e.1.items)) es

-- no place of any frame is lost
abbrev pub KeepsPlaces : List (Frame × List ℕ) → List (Frame × List ℕ) → Type 0
KeepsPlaces old new = (frame : Frame) (place : ℕ) → IsIn place (places_in old frame) → IsIn place (places_in new frame)

-- no candidate is lost
abbrev pub KeepsCandidates : List Place → List Place → Type 0
KeepsCandidates old new = (place : Place) → IsIn place old → IsIn place new
