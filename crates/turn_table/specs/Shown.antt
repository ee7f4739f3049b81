-- What a contract sees of a seat.
use Rattle.std.specs.Prelude.{◌≡◌, ℕ, ◌+◌, ◌-◌, ◌<◌, ◌≤◌, Bool, true, false, List, [], ◌∷◌, ◌++◌, length, drop, Option, Some, None}
use Rattle.atomic_table.specs.Table.{Me}
use Rattle.atomic_table.specs.Seated.{TableId}
use Rattle.turn_table.specs.Events.{longer, events_of}
use Rattle.turn_table.specs.Views.{Stage, idle, waiting, serving, Known, Standing, spent, seated, SeatedAnd}

-- two words and one slot
abbrev pub IsSized : TableId → Type 0
IsSized id = (id.words ≡ 2) × (id.slots ≡ 1)

abbrev pub is_serving : Stage → Bool
is_serving idle = false
is_serving (waiting t) = false
is_serving (serving t) = true

pub record ShownSeat (E C : Type 0) : Type 0 where
  -- which table the seat is of
  pub table : TableId
  pub number : ℕ
  -- how many seats the table may have
  pub seats : ℕ
  -- the base of the table's value, which each seat shows
  pub base : Option C
  -- whether the seat holds the turn
  pub holds : Bool
  -- the history as far as the seat has seen it; while it holds the turn, the one with which that turn began
  pub seen : List E
  -- its own events
  pub mine : List E
  -- how many seats stand in it, itself included
  pub stands : ℕ
  -- how many seats were made, or 0 where another seat says it
  pub made : ℕ
  -- the greatest number that it may give, or 0
  pub room : ℕ
  -- the numbers of the seats that it took in, each with its events
  pub ended : List (ℕ × List E)

-- between calls a seat is idle, or it is served and the slot that it took is empty
abbrev pub IsAtRest : {B : Type 0} → Stage → List (ℕ × Option B) → Type 0
IsAtRest idle slots = slots ≡ []
IsAtRest (waiting t) slots = ⊥
IsAtRest (serving t) slots = slots ≡ (0, None) ∷ []

module _ {E C : Type 0} where
  abbrev pub shown : TableId → Standing E C → ShownSeat E C
  shown id spent = record { table = id; number = 0; seats = 0; base = None; holds = false; seen = []; mine = []; stands = 0; made = 0; room = 0; ended = [] }
  shown id (seated v) = record {
    table = id;
    number = v.number;
    seats = v.seats;
    base = Some v.base;
    holds = is_serving v.stage;
    seen = v.seen;
    mine = v.mine;
    stands = v.stands;
    made = v.made;
    room = v.room;
    ended = v.ended;
  }

  -- the events of the seat's number that it has seen are its own, and no others
  abbrev pub IsOwn : (E → ℕ) → ShownSeat E C → Type 0
  IsOwn seat_of s = events_of seat_of s.number s.seen ≡ s.mine

  -- the first seat of a table
  abbrev pub first_seat : TableId → C → ℕ → ShownSeat E C
  first_seat id base seats = record {
    table = id;
    number = 0;
    seats = seats;
    base = Some base;
    holds = false;
    seen = [];
    mine = [];
    stands = 1;
    made = 1;
    room = seats - 1;
    ended = [];
  }

  -- the seat holds the turn, which began with this history
  abbrev pub turn_begun : ShownSeat E C → List E → ShownSeat E C
  turn_begun s history = record s { holds = true; seen = history }

  -- the turn was passed with this history, and what it added is the seat's own
  abbrev pub turn_ended : ShownSeat E C → List E → ShownSeat E C
  turn_ended s history = record s { holds = false; seen = history; mine = s.mine ++ drop (length s.seen) history }

  -- the seat after it gave its greatest number, and the seat that has it
  abbrev pub seat_split : ShownSeat E C → ShownSeat E C
  seat_split s = record s { made = s.made + 1; room = s.room - 1 }

  abbrev pub new_seat : ShownSeat E C → ShownSeat E C
  new_seat s = record s { number = s.room; holds = false; mine = []; stands = 1; made = 0; room = 0; ended = [] }

  -- the seat after another was joined
  abbrev pub seats_joined : ShownSeat E C → ShownSeat E C → ShownSeat E C
  seats_joined s o = record s {
    seen = longer s.seen o.seen;
    stands = s.stands + o.stands;
    made = s.made + o.made;
    ended = s.ended ++ (o.number, o.mine) ∷ o.ended;
  }

  -- all seats that a seat knows of, itself and those that it took in
  abbrev pub seats_known : ShownSeat E C → List (ℕ × List E)
  seats_known s = (s.number, s.mine) ∷ s.ended

  module _ {B : Type 0} where
    pub record IsSeated (seat_of : E → ℕ) (number room : ℕ) (slots : List (ℕ × Option B)) (v : Known E C) : Type 0 where
      pub number_is : v.number ≡ number
      pub room_is : v.room ≡ room
      pub told : v.told ≡ []
      pub own : events_of seat_of v.number v.seen ≡ v.mine
      pub first : 0 < v.room → v.number ≡ 0
      pub to_give : (n : ℕ) → 0 < n → n ≤ v.room → events_of seat_of n v.seen ≡ []
      pub rest : IsAtRest v.stage slots

    abbrev pub IsSeat : (E → ℕ) → ℕ → ℕ → Me (Option B) (Standing E C) → Type 0
    IsSeat seat_of number room me = SeatedAnd me.0 (IsSeated seat_of number room me.1)
