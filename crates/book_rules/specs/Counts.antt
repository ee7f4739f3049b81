-- What a book has once, and how often a unit was claimed, posted and given back.
use Rattle.std.specs.Prelude.{ℕ, ◌==◌, ◌&&◌, Bool, true, false, cond, Option, None, Some, List, count_by, ◌≡◌, ◌≢◌, [], ◌∷◌}
use Rattle.call_context.specs.declared.node.Unit.{Unit as WorkUnit}
use Rattle.book_rules.specs.Same.{same_unit}
use Rattle.book_rules.specs.declared.event.Event.{Event}
use Rattle.book_rules.specs.declared.event.Event.TheVariants.{Claim, Post, GiveBack}
use Rattle.book_rules.specs.Machine.{Held, Out, held_at, out_at}

-- no two nodes are one
abbrev pub AreApart : {A : Type 0} → List (Held A) → Type 0
AreApart [] = Unit {0}
AreApart (h ∷ hs) = (held_at hs h.node ≡ None) × AreApart hs

-- no unit is out twice
abbrev pub AreOutOnce : {A : Type 0} → List (Out A) → Type 0
AreOutOnce [] = Unit {0}
AreOutOnce (o ∷ os) = (out_at os o.unit ≡ None) × AreOutOnce os

-- an event of that kind, of the unit, by a seat that passes
abbrev pub is_claim : (ℕ → Bool) → WorkUnit → Event → Bool
is_claim seats unit (Claim seat other) = same_unit unit other && seats seat
is_claim seats unit (Post seat other) = false
is_claim seats unit (GiveBack seat other) = false

abbrev pub is_post : (ℕ → Bool) → WorkUnit → Event → Bool
is_post seats unit (Claim seat other) = false
is_post seats unit (Post seat other) = same_unit unit other && seats seat
is_post seats unit (GiveBack seat other) = false

abbrev pub is_give_back : (ℕ → Bool) → WorkUnit → Event → Bool
is_give_back seats unit (Claim seat other) = false
is_give_back seats unit (Post seat other) = false
is_give_back seats unit (GiveBack seat other) = same_unit unit other && seats seat

-- by any seat
abbrev pub anyone : ℕ → Bool
anyone seat = true

abbrev pub claims_of : WorkUnit → List Event → ℕ
claims_of unit journal = count_by (is_claim anyone unit) journal

abbrev pub posts_of : WorkUnit → List Event → ℕ
posts_of unit journal = count_by (is_post anyone unit) journal

abbrev pub give_backs_of : WorkUnit → List Event → ℕ
give_backs_of unit journal = count_by (is_give_back anyone unit) journal

-- by one seat
abbrev pub claims_by : ℕ → WorkUnit → List Event → ℕ
claims_by seat unit journal = count_by (is_claim (λ s. s == seat) unit) journal

abbrev pub posts_by : ℕ → WorkUnit → List Event → ℕ
posts_by seat unit journal = count_by (is_post (λ s. s == seat) unit) journal

abbrev pub give_backs_by : ℕ → WorkUnit → List Event → ℕ
give_backs_by seat unit journal = count_by (is_give_back (λ s. s == seat) unit) journal

-- whether a unit is out to a seat that passes, as a number
abbrev pub outs : {A : Type 0} → (ℕ → Bool) → Option (Out A) → ℕ
outs seats None = 0
outs seats (Some o) = cond (seats o.seat) 1 0

-- the seat of an event
abbrev pub seat_of : Event → ℕ
seat_of (Claim seat unit) = seat
seat_of (Post seat unit) = seat
seat_of (GiveBack seat unit) = seat

-- the unit of an event
abbrev pub unit_of : Event → WorkUnit
unit_of (Claim seat unit) = unit
unit_of (Post seat unit) = unit
unit_of (GiveBack seat unit) = unit

-- no event of the list is that seat's
abbrev pub NoneOfSeat : ℕ → List Event → Type 0
NoneOfSeat seat [] = Unit {0}
NoneOfSeat seat (event ∷ events) = (seat_of event ≢ seat) × NoneOfSeat seat events
