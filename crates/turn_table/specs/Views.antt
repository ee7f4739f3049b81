-- What a seat knows, and how its calls change it.
use Rattle.std.specs.Prelude.{◌≡◌, ℕ, ◌+◌, ◌-◌, List, [], ◌∷◌, ◌++◌, length, drop}
use Rattle.turn_table.specs.Events.{longer}

-- A seat waits for its turn, or has it, with the ticket that it drew; or neither. Tickets count from 0 and never wrap.
pub data Stage : Type 0 where
  idle : Stage
  waiting : ℕ → Stage
  serving : ℕ → Stage

pub record Known (E C : Type 0) : Type 0 where
  pub number : ℕ
  pub seats : ℕ
  pub base : C
  pub stage : Stage
  -- the history as far as it is known, and the seat's own events
  pub seen : List E
  pub mine : List E
  -- what a seat that was joined had seen, until this one has caught up
  pub told : List E
  -- how many seats stand in this one
  pub stands : ℕ
  -- 1 where this seat says how many seats were made, else 0
  pub says : ℕ
  pub made : ℕ
  -- the greatest number that this seat may give, 0 where it may give none
  pub room : ℕ
  -- the numbers of the seats that it took in, each with its events
  pub ended : List (ℕ × List E)

-- a joined seat is spent
pub data Standing (E C : Type 0) : Type 0 where
  spent : Standing E C
  seated : Known E C → Standing E C

abbrev pub tickets_in : Stage → ℕ
tickets_in idle = 0
tickets_in (waiting t) = 1
tickets_in (serving t) = 1

abbrev pub ticket_in : Stage → ℕ
ticket_in idle = 0
ticket_in (waiting t) = t
ticket_in (serving t) = t

abbrev pub HasTicket : Stage → ℕ → Type 0
HasTicket idle t = ⊥
HasTicket (waiting u) t = u ≡ t
HasTicket (serving u) t = u ≡ t

module _ {E C : Type 0} where
  abbrev pub SeatedAnd : Standing E C → (Known E C → Type 0) → Type 0
  SeatedAnd spent P = ⊥
  SeatedAnd (seated v) P = P v

  abbrev pub on : (Known E C → Known E C) → Standing E C → Standing E C
  on f spent = spent
  on f (seated v) = seated (f v)

  -- a number of a seat, 0 where it is spent
  abbrev pub count_of : (Known E C → ℕ) → Standing E C → ℕ
  count_of f spent = 0
  count_of f (seated v) = f v

  abbrev pub tickets_of : Standing E C → ℕ
  tickets_of = count_of (λ v. tickets_in v.stage)

  abbrev pub stands_of : Standing E C → ℕ
  stands_of = count_of (λ v. v.stands)

  abbrev pub says_of : Standing E C → ℕ
  says_of = count_of (λ v. v.says)

  abbrev pub made_of : Standing E C → ℕ
  made_of = count_of (λ v. v.made)

  abbrev pub room_of : Standing E C → ℕ
  room_of = count_of (λ v. v.room)

  abbrev pub ticket_of : Standing E C → ℕ
  ticket_of = count_of (λ v. ticket_in v.stage)

  -- the seat that a table begins with
  abbrev pub opening_seat : C → ℕ → Known E C
  opening_seat base seats = record {
    number = 0;
    seats = seats;
    base = base;
    stage = idle;
    seen = [];
    mine = [];
    told = [];
    stands = 1;
    says = 1;
    made = 1;
    room = seats - 1;
    ended = [];
  }

  abbrev pub draws : ℕ → Known E C → Known E C
  draws t v = record v { stage = waiting t }

  -- its turn begins, with this history
  abbrev pub serves : ℕ → List E → Known E C → Known E C
  serves t history v = record v { stage = serving t; seen = history }

  -- its turn ends with this history, which begins with the one that its turn began with
  abbrev pub passes : List E → Known E C → Known E C
  passes history v = record v { stage = idle; seen = history; mine = v.mine ++ drop (length v.seen) history }

  -- it gave its greatest number
  abbrev pub gives : Known E C → Known E C
  gives v = record v { made = v.made + 1; room = v.room - 1 }

  -- the seat that has that number
  abbrev pub given_seat : Known E C → Known E C
  given_seat v = record {
    number = v.room;
    seats = v.seats;
    base = v.base;
    stage = idle;
    seen = v.seen;
    mine = [];
    told = [];
    stands = 1;
    says = 0;
    made = 0;
    room = 0;
    ended = [];
  }

  -- it was told what the seat w had seen, whose seats stand in it now, and whose number is over
  abbrev pub takes_in : Known E C → Known E C → Known E C
  takes_in v w = record v {
    told = w.seen;
    stands = v.stands + w.stands;
    says = v.says + w.says;
    made = v.made + w.made;
    ended = v.ended ++ (w.number, w.mine) ∷ w.ended;
  }

  abbrev pub catches_up : Known E C → Known E C
  catches_up v = record v { seen = longer v.seen v.told; told = [] }

  abbrev pub both_seats : Standing E C → Standing E C → Standing E C
  both_seats spent w = spent
  both_seats (seated v) spent = seated v
  both_seats (seated v) (seated w) = seated (takes_in v w)
