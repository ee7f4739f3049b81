-- What each atomic step tells the seat that makes it.
use Rattle.std.specs.Prelude.{◌≡◌, ◌≢◌, ℕ, ◌%◌, ◌<◌, ◌≤◌, List, [], ◌∷◌, ◌++◌, Option, Some}
use Rattle.atomic_table.specs.Table.{Me}
use Rattle.turn_table.specs.Events.{StartsWith, events_of, longer, AllOf}
use Rattle.turn_table.specs.Views.{idle, serving, Known, Standing, SeatedAnd, on, ticket_of, draws, serves, passes, catches_up}

module _ {E C : Type 0} where
  -- the history of a turn begins with what the seat had seen, and has its own events and no others of its number, and none of a number that it may give
  pub record Begins (seat_of : E → ℕ) (base : C) (log : List E) (v : Known E C) : Type 0 where
    pub seen : StartsWith log v.seen
    pub own : events_of seat_of v.number log ≡ v.mine
    pub base_is : base ≡ v.base
    pub to_give : (n : ℕ) → 0 < n → n ≤ v.room → events_of seat_of n log ≡ []

  -- the longer of what the seat has seen and what it was told of begins with both, and has its own events and no others of its number
  pub record Catches (seat_of : E → ℕ) (v : Known E C) : Type 0 where
    pub first : StartsWith (longer v.seen v.told) v.seen
    pub second : StartsWith (longer v.seen v.told) v.told
    pub own : events_of seat_of v.number (longer v.seen v.told) ≡ v.mine
    pub to_give : (n : ℕ) → 0 < n → n ≤ v.room → events_of seat_of n (longer v.seen v.told) ≡ []

  -- what a seat owes that passes its turn with the value y
  pub record MayPass {B : Type 0} (history : B → List E) (seat_of : E → ℕ) (base_of : B → C) (y : B) (v : Known E C) : Type 0 where
    pub served : (t : ℕ) × (v.stage ≡ serving t)
    pub grown : (added : List E) × (history y ≡ v.seen ++ added) × AllOf seat_of v.number added
    pub based : base_of y ≡ v.base

  module _ {B : Type 0} where
    abbrev pub IsIdle : Me (Option B) (Standing E C) → Type 0
    IsIdle m = SeatedAnd m.0 (λ v. v.stage ≡ idle) × (m.1 ≡ [])

    -- a ticket was drawn, and the word was its number
    abbrev pub drew : Me (Option B) (Standing E C) → ℕ → Me (Option B) (Standing E C) → Type 0
    drew m found n = (t : ℕ) × (found ≡ t % 18446744073709551616) × (n ≡ (on (draws t) m.0, m.1))

    -- the seat's turn came, and it took the value
    abbrev pub Served : (B → List E) → (E → ℕ) → (B → C) → Me (Option B) (Standing E C) → Me (Option B) (Standing E C) → Type 0
    Served history seat_of base_of m n =
        (x : B) × (n ≡ (on (serves (ticket_of m.0) (history x)) m.0, (0, Some x) ∷ m.1))
        × SeatedAnd m.0 (Begins seat_of (base_of x) (history x))

    abbrev pub looked : (B → List E) → (E → ℕ) → (B → C) → Me (Option B) (Standing E C) → ℕ → Me (Option B) (Standing E C) → Type 0
    looked history seat_of base_of m found n =
        (found ≡ ticket_of m.0 % 18446744073709551616 → Served history seat_of base_of m n)
        × (found ≢ ticket_of m.0 % 18446744073709551616 → n ≡ m)

    -- the seat gave the value back, and its turn is over
    abbrev pub passed : (B → List E) → Me (Option B) (Standing E C) → Me (Option B) (Standing E C) → Type 0
    passed history m n = (y : B) → m.1 ≡ (0, Some y) ∷ [] → n ≡ (on (passes (history y)) m.0, [])

    -- the seat has seen what it was told of
    abbrev pub caught_up : (E → ℕ) → Me (Option B) (Standing E C) → Me (Option B) (Standing E C) → Type 0
    caught_up seat_of m n = (n ≡ (on catches_up m.0, m.1)) × SeatedAnd m.0 (Catches seat_of)
