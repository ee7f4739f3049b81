-- What a worker makes of its seat.
use Rattle.std.specs.Prelude.{◌≡◌, ℕ, ◌+◌, ◌≤◌, false, Some, List, [], ◌∷◌, ◌++◌, length, map}
use Rattle.atomic_table.specs.Seated.{TableId}
use Rattle.call_context.specs.declared.node.Unit.{Unit as WorkUnit}
use Rattle.chip_analysis.specs.Analysis.{Analysis}
use Rattle.fact_table.specs.Seats.{AreOutTo}
use Rattle.book_rules.specs.Machine.{Out}
use Rattle.book_rules.specs.declared.event.Event.{Event}
use Rattle.book_rules.specs.declared.event.Event.TheVariants.{Claim, Post, GiveBack}
use Rattle.turn_table.specs.Events.{StartsWith}
use Rattle.turn_table.specs.Shown.{ShownSeat, seats_known}

-- Units wait in the order of their claims. A post or a give-back is of the one that has waited longest, and `left` are those that
-- still wait behind the events.
abbrev pub Answers : (waiting : List WorkUnit) → List Event → (left : List WorkUnit) → Type 0
Answers waiting [] left = waiting ≡ left
Answers waiting (Claim seat unit ∷ events) left = Answers (waiting ++ unit ∷ []) events left
Answers [] (Post seat unit ∷ events) left = ⊥
Answers (first ∷ waiting) (Post seat unit ∷ events) left = (unit ≡ first) × Answers waiting events left
Answers [] (GiveBack seat unit ∷ events) left = ⊥
Answers (first ∷ waiting) (GiveBack seat unit ∷ events) left = (unit ≡ first) × Answers waiting events left

-- each claim is followed by the post or the give-back of its unit, in the order of the claims, and there is no other event
abbrev pub AreAnswered : List Event → Type 0
AreAnswered events = Answers [] events []

-- the events of each of these seats are
abbrev pub EachAnswered : List (ℕ × List Event) → Type 0
EachAnswered [] = Unit {0}
EachAnswered (seat ∷ seats) = AreAnswered seat.1 × EachAnswered seats

abbrev pub units_of : {A : Type 0} → List (Out A) → List WorkUnit
units_of tickets = map (λ t. t.unit) tickets

module _ {B : Type 0} where
  -- the seat is idle, at this table, whose book is of this program
  abbrev pub IsReady : TableId → B → ShownSeat Event B → Type 0
  IsReady table base seat = (seat.table ≡ table) × (seat.holds ≡ false) × (Some base ≡ seat.base)

  -- The seat has seen a journal that begins with what it had seen, and has made these events since. They answer units that
  -- waited, in their order, and leave others.
  pub record Serves (waiting left : List WorkUnit) (old new : ShownSeat Event B) : Type 0 where
    pub log : List Event
    pub events : List Event
    pub begins : StartsWith log old.seen
    pub answered : Answers waiting events left
    pub seat : new ≡ record old { seen = log; mine = old.mine ++ events }

  -- it has answered each claim that it has made
  abbrev pub Works : (old new : ShownSeat Event B) → Type 0
  Works old new = Serves [] [] old new

  -- it has answered tickets, and has claimed others, which are out to it
  pub record GoesOn {A : Type 0} (analysis : B → Analysis A) (tickets : List (Out A)) (old : ShownSeat Event B) (next : List (Out A)) (new : ShownSeat Event B) : Type 0 where
    pub serves : Serves (units_of tickets) (units_of next) old new
    pub out : AreOutTo analysis new next
    pub few : length next ≤ 4

  -- The seat is idle at the same table. It has seen what it had seen, and each seat that it gave stands in it again.
  pub record TakesIn (old new : ShownSeat Event B) : Type 0 where
    pub begins : StartsWith new.seen old.seen
    pub table : new.table ≡ old.table
    pub seats : new.seats ≡ old.seats
    pub base : new.base ≡ old.base
    pub idle : new.holds ≡ false
    pub stands : new.stands + old.made ≡ old.stands + new.made

  -- where the seat and those that it took in had answered each of their claims, they have again
  abbrev pub StaysAnswered : (old new : ShownSeat Event B) → Type 0
  StaysAnswered old new = EachAnswered (seats_known old) → EachAnswered (seats_known new)
