-- What each call makes of a seat at the book.
use Rattle.std.specs.Prelude.{◌≡◌, ℕ, Some, List, [], ◌∷◌, ◌++◌, IsTrue, not}
use Rattle.std.specs.List.{AllByRecursion}
use Rattle.chip_analysis.specs.Analysis.{Analysis}
use Rattle.fact_table.specs.Exchange.{AreClaimed, AreOutOf, TellsLast, claim_events, post_events, tickets_of}
use Rattle.fact_table.specs.declared.exchange.Exchanged.{Exchanged}
use Rattle.round_core.specs.Answers.{AnswersClaim}
use Rattle.book_rules.specs.Claimable.{HasAtLeast}
use Rattle.book_rules.specs.Kept.{IsOutOf}
use Rattle.book_rules.specs.Machine.{Out, replay}
use Rattle.book_rules.specs.declared.event.Event.{Event}
use Rattle.book_rules.specs.declared.event.Event.TheVariants.{Claim}
use Rattle.round_core.specs.declared.ticket.Claimed.{Claimed}
use Rattle.round_core.specs.declared.ticket.Claimed.TheVariants.{Ticket, Idle, Finished}
use Rattle.round_core.specs.declared.ticket.Done.{Done}
use Rattle.turn_table.specs.Events.{StartsWith}
use Rattle.turn_table.specs.Shown.{ShownSeat}

module _ {B : Type 0} where
  -- the seat behind a turn that began with this journal and added nothing, or one event
  abbrev pub looked : ShownSeat Event B → List Event → ShownSeat Event B
  looked s log = record s { seen = log }

  abbrev pub recorded : ShownSeat Event B → List Event → Event → ShownSeat Event B
  recorded s log event = record s { seen = log ++ event ∷ []; mine = s.mine ++ event ∷ [] }

  -- or any number of its events
  abbrev pub recorded_all : ShownSeat Event B → List Event → List Event → ShownSeat Event B
  recorded_all s log events = record s { seen = log ++ events; mine = s.mine ++ events }

  -- the seat's turn began with a journal that begins with what it had seen, and added nothing
  pub record Looks (old new : ShownSeat Event B) : Type 0 where
    pub log : List Event
    pub begins : StartsWith log old.seen
    pub seat : new ≡ looked old log

  module _ {A : Type 0} where
    -- the seat behind a claim: a ticket adds its claim, and other answers nothing
    abbrev pub claimed_seat : {C : Type 0} → ShownSeat Event B → List Event → Claimed C B A → ShownSeat Event B
    claimed_seat s log (Ticket t) = recorded s log (Claim s.number t.unit)
    claimed_seat s log Idle = looked s log
    claimed_seat s log Finished = looked s log

    module _ (analysis : B → Analysis A) where
      -- the ticket is out to the seat, as far as it has seen
      pub record IsOutTo (s : ShownSeat Event B) (ticket : Out A) : Type 0 where
        pub base : B
        pub base_is : Some base ≡ s.base
        pub out : IsOutOf (replay (analysis base) s.seen) ticket
        pub seat : ticket.seat ≡ s.number

      -- the seat's turn began with a journal in which the ticket is out, and added the one event that ends it
      pub record Ends (old : ShownSeat Event B) (ticket : Out A) (event : Event) (new : ShownSeat Event B) : Type 0 where
        pub base : B
        pub base_is : Some base ≡ old.base
        pub log : List Event
        pub begins : StartsWith log old.seen
        pub out : IsOutOf (replay (analysis base) log) ticket
        pub seat : new ≡ recorded old log event

      -- what the book answers on the journal with which the seat's turn began
      pub record Claims {C : Type 0} (old : ShownSeat Event B) (claimed : Claimed C B A) (new : ShownSeat Event B) : Type 0 where
        pub base : B
        pub base_is : Some base ≡ old.base
        pub log : List Event
        pub begins : StartsWith log old.seen
        pub answer : AnswersClaim (analysis base) (record { base = base; journal = log }) (record { base = base; journal = new.seen }) old.number claimed
        pub seat : new ≡ claimed_seat old log claimed

      -- these tickets are out to the seat, as far as it has seen
      pub record AreOutTo (s : ShownSeat Event B) (tickets : List (Out A)) : Type 0 where
        pub base : B
        pub base_is : Some base ≡ s.base
        pub out : AreOutOf (replay (analysis base) s.seen) tickets
        pub seat : AllByRecursion (λ t. t.seat ≡ s.number) tickets

      -- The seat's turn began with a journal in which the tickets of all works are out. It posted the works that aren't handed
      -- back, in their order, and then claimed, as the book answers at each place.
      pub record Exchanges {C : Type 0} (old : ShownSeat Event B) (done : List (Done C B A)) (want share : ℕ) (r : Exchanged C B A) (new : ShownSeat Event B) : Type 0 where
        pub base : B
        pub base_is : Some base ≡ old.base
        pub log : List Event
        pub begins : StartsWith log old.seen
        pub out : AreOutOf (replay (analysis base) log) (tickets_of done)
        pub posted : List (Done C B A)
        pub whole : done ≡ posted ++ r.unposted.items
        pub claims : AreClaimed (analysis base) old.number share (log ++ post_events (tickets_of posted)) r.tickets.items
        pub seat : new ≡ recorded_all old log (post_events (tickets_of posted) ++ claim_events old.number r.tickets.items)
        pub still_out : AreOutTo new (tickets_of r.unposted.items ++ r.tickets.items)
        pub last_is : TellsLast (replay (analysis base) new.seen) want share r.unposted.items r.tickets.items r.last
        -- where none may be left, no unit can be claimed behind the turn
        pub none_left : IsTrue (not r.left) → HasAtLeast (replay (analysis base) new.seen) 1 → ⊥
