-- Units by the places of their nodes, and whether they can be claimed.
use Rattle.std.specs.Prelude.{◌≡◌, ◌||◌, Bool, true, nat_lt, is_some, if◌then◌else◌, Option, None, Some, List, slice_get, option_and_then, MatchOption}
use Rattle.std.specs.Option.{option_map}
use Rattle.call_context.specs.declared.node.Node.{Node}
use Rattle.call_context.specs.declared.node.Node.TheVariants.{At, Exit}
use Rattle.call_context.specs.declared.node.Unit.{Unit as WorkUnit}
use Rattle.call_context.specs.declared.node.Unit.TheVariants as unit
use Rattle.round_core.specs.declared.place.Place.{Place}
use Rattle.round_core.specs.declared.place.Place.TheVariants as place
use Rattle.book_rules.specs.declared.versions.Versions.{Versions}
use Rattle.book_rules.specs.Machine.{BookState, Held, Done, IsFirst, NoneClaimable, done_at, place_of, waits_for, versions_of}
use Rattle.round_core.specs.Turns.{place_out}

-- the unit of a location's own work
abbrev pub one_of : Node → Option WorkUnit
one_of (At pc calls frame) = Some (unit.One (At pc calls frame))
one_of (Exit pc frame) = None

module _ {A : Type 0} where
  -- the place of a unit
  abbrev pub placed : List (Held A) → WorkUnit → Option Place
  placed nodes (unit.One node) = option_map (λ n. place.One n) (place_of nodes node)
  placed nodes (unit.Back node exit) = option_and_then (λ n. option_map (λ x. place.Back n x) (place_of nodes exit)) (place_of nodes node)

  -- the return from an exit to a location that waits for its frame
  abbrev pub back_of : List (Done A) → Node → Node → Option WorkUnit
  back_of done (At pc calls frame) (Exit from left) =
      if waits_for done (At pc calls frame) left then Some (unit.Back (At pc calls frame) (Exit from left)) else None
  back_of done (At pc calls frame) (At from calls' frame') = None
  back_of done (Exit pc frame) exit = None

  -- the unit at a place
  abbrev pub unit_at : List (Held A) → List (Done A) → Place → Option WorkUnit
  unit_at nodes done (place.One n) = option_and_then (λ h. one_of h.node) (slice_get nodes n)
  unit_at nodes done (place.Back n x) =
      option_and_then (λ h. option_and_then (λ e. back_of done h.node e.node) (slice_get nodes x)) (slice_get nodes n)

  -- a unit was never done, or has an input that rose since
  abbrev pub due_of : Option (Done A) → Versions → Bool
  due_of None now = true
  due_of (Some d) now = nat_lt d.versions.at now.at || nat_lt d.versions.exit now.exit

  -- the unit of a place, where it can be claimed
  abbrev pub claimable_at : List (Held A) → List (Done A) → List (WorkUnit × Place) → Place → Option WorkUnit
  claimable_at nodes done out place =
      option_and_then (λ u. if is_some (place_out out u) then None else if due_of (done_at done u) (versions_of nodes u) then Some u else None)
      (unit_at nodes done place)

  -- the first unit that can be claimed, with its place, or none
  abbrev pub IsNext : BookState A → Option (Place × WorkUnit) → Type 0
  IsNext b next = MatchOption next (NoneClaimable b) (λ first. IsFirst b first.1 × (placed b.nodes first.1 ≡ Some first.0))
