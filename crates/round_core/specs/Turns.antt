-- Units that are out with their places, and the journal.
use Rattle.std.specs.Prelude.{◌≡◌, ◌+◌, ℕ, if◌then◌else◌, Option, None, Some, List, [], ◌∷◌, length}
use Rattle.std.specs.Map.{lookup}
use Rattle.std.specs.Option.{option_map}
use Rattle.call_context.specs.declared.node.Unit.{Unit as WorkUnit}
use Rattle.round_core.specs.Agenda.{AreDifferent, IsIn}
use Rattle.book_rules.specs.Same.{same_unit}
use Rattle.book_rules.specs.declared.event.Event.{Event}
use Rattle.round_core.specs.declared.place.Place.{Place}

-- what happened, the units that are out, and the places that were given back since the last claim
pub record Standing : Type 0 where
  pub journal : List Event
  pub out : List (WorkUnit × Place)
  pub returned : List Place

-- the place of a unit that is out
abbrev pub place_out : List (WorkUnit × Place) → WorkUnit → Option Place
place_out out unit = lookup (same_unit unit) out

-- where a unit that is out stands
abbrev pub index_out : List (WorkUnit × Place) → WorkUnit → Option ℕ
index_out [] unit = None
index_out (e ∷ es) unit = if same_unit unit e.0 then Some 0 else option_map (λ index. index + 1) (index_out es unit)

-- each unit stands there once
abbrev pub StandOnce : List (WorkUnit × Place) → Type 0
StandOnce [] = Unit {0}
StandOnce (e ∷ es) = (place_out es e.0 ≡ None) × StandOnce es

-- no place was given back twice since the last claim, and none of a unit that is out
pub record AreGivenBack (turns : Standing) : Type 0 where
  pub once : AreDifferent turns.returned
  pub home : (unit : WorkUnit) (place : Place) → place_out turns.out unit ≡ Some place → IsIn place turns.returned → ⊥

-- one unit that was out is home, and the others are out as before
pub record TakesHome (old : List (WorkUnit × Place)) (unit : WorkUnit) (new : List (WorkUnit × Place)) : Type 0 where
  pub count : length new + 1 ≡ length old
  pub places : (other : WorkUnit) → place_out new other ≡ (if same_unit unit other then None else place_out old other)
