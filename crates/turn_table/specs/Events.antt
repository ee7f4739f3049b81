-- Histories: lists of events, each of which is of one seat.
use Rattle.std.specs.Prelude.{◌≡◌, ◌≢◌, ◌⊎◌, ℕ, ◌<◌, ◌≤◌, ◌==◌, cond, nat_lt, List, [], ◌∷◌, ◌++◌, length, filter, All}

module _ {E : Type 0} where
  abbrev pub StartsWith : List E → List E → Type 0
  StartsWith whole front = (rest : List E) × (whole ≡ front ++ rest)

  -- the longer of two lists, and the first where both are as long
  abbrev pub longer : List E → List E → List E
  longer xs ys = cond (nat_lt (length xs) (length ys)) ys xs

  -- the events that stand with a number, and none where it isn't there
  abbrev pub events_under : ℕ → List (ℕ × List E) → List E
  events_under n [] = []
  events_under n (seat ∷ seats) = cond (seat.0 == n) seat.1 (events_under n seats)

  -- the number stands among seats with their events
  abbrev pub IsAmong : ℕ → List (ℕ × List E) → Type 0
  IsAmong n [] = ⊥
  IsAmong n (seat ∷ seats) = (seat.0 ≡ n) ⊎ IsAmong n seats

  -- no seat there has this number, or one from 1 up to that which may still be given
  abbrev pub AreClear : (number room : ℕ) → List (ℕ × List E) → Type 0
  AreClear number room [] = Unit {0}
  AreClear number room (seat ∷ seats) = (seat.0 ≢ number) × (0 < seat.0 → seat.0 ≤ room → ⊥) × AreClear number room seats

  module _ (seat_of : E → ℕ) where
    -- the events of one seat, in order
    abbrev pub events_of : ℕ → List E → List E
    events_of number events = filter (λ e. seat_of e == number) events

    -- each event is of this seat
    abbrev pub AllOf : ℕ → List E → Type 0
    AllOf number events = All (λ e. seat_of e ≡ number) events

    -- each event is of a seat with a number below this one
    abbrev pub AllBelow : ℕ → List E → Type 0
    AllBelow seats events = All (λ e. seat_of e < seats) events

    -- the seats have exactly these events of a history
    abbrev pub HaveEvents : List E → List (ℕ × List E) → Type 0
    HaveEvents history [] = Unit {0}
    HaveEvents history (seat ∷ seats) = (events_of seat.0 history ≡ seat.1) × HaveEvents history seats
