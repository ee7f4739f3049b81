-- What a worker's calls make of its seat, put together.
use Rattle.std.proofs.Common.{◌≡◌, ◌==◌, true, ◌≤◌, ◌<◌, ℕ, List, [], ◌∷◌, ◌++◌, length, refl, sym, ap, ◌∙◌, subst, append-nil, append_assoc, ◌+◌, arith, slice_index_or}
use Rattle.std.specs.List.{AllByRecursion, IsDistinct, remove}
use Rattle.std.proofs.lemmas.Bool.{cond_both}
use Rattle.std.proofs.lemmas.Bool.Decides.{nat_tests}
use Rattle.std.proofs.lemmas.List.{map-append}
use Rattle.atomic_table.specs.Seated.{TableId}
use Rattle.call_context.specs.declared.node.Unit.{Unit as WorkUnit}
use Rattle.chip_analysis.specs.Analysis.{Analysis}
use Rattle.fact_table.specs.Exchange.{AreOutOf, TellsLast, claim_events, post_events, tickets_of}
use Rattle.fact_table.specs.Seats.{AreOutTo, Ends, Exchanges}
use Rattle.fact_table.specs.declared.exchange.Exchanged.{Exchanged}
use Rattle.fact_table.specs.declared.exchange.Last.{Last}
use Rattle.fact_table.specs.declared.exchange.Last.TheVariants.{Full, Shared, Idle, Finished, Memory}
use Rattle.book_rules.specs.Machine.{BookState, Out, replay}
use Rattle.book_rules.specs.declared.event.Event.{Event}
use Rattle.book_rules.specs.declared.event.Event.TheVariants.{Claim, Post, GiveBack}
use Rattle.round_core.specs.declared.ticket.Done.{Done}
use Rattle.turn_table.specs.Events.{StartsWith, events_under}
use Rattle.turn_table.specs.Shown.{ShownSeat, new_seat, seat_split, seats_joined, seats_known}
use Rattle.worker_crew.specs.Turns.{Answers, AreAnswered, EachAnswered, GoesOn, IsReady, Serves, TakesIn, Works, units_of}

starts_then : (x y z : List Event) → StartsWith y x → StartsWith z y → StartsWith z x
starts_then x y z p q = (p.0 ++ q.0, q.1 ∙ ap (λ l. l ++ q.0) p.1 ∙ append_assoc x p.0 q.0)

-- what waits behind some events is what waits in front of the next ones
answers_then : (a : List WorkUnit) (xs ys : List Event) (b c : List WorkUnit) → Answers a xs b → Answers b ys c → Answers a (xs ++ ys) c
answers_then a [] ys b c h k = subst (λ w. Answers w ys c) (sym h) k
answers_then a (Claim seat unit ∷ xs) ys b c h k = answers_then (a ++ unit ∷ []) xs ys b c h k
answers_then [] (Post seat unit ∷ xs) ys b c h k = absurd h
answers_then (first ∷ a) (Post seat unit ∷ xs) ys b c h k = (h.0, answers_then a xs ys b c h.1 k)
answers_then [] (GiveBack seat unit ∷ xs) ys b c h k = absurd h
answers_then (first ∷ a) (GiveBack seat unit ∷ xs) ys b c h k = (h.0, answers_then a xs ys b c h.1 k)

-- the posts of the tickets that have waited longest
answers_posts : {A : Type 0} (ts : List (Out A)) (us : List WorkUnit) → Answers (units_of ts ++ us) (post_events ts) us
answers_posts [] us = refl
answers_posts (t ∷ ts) us = (refl, answers_posts ts us)

-- claims wait behind all others
answers_claims : {A : Type 0} (seat : ℕ) (us : List WorkUnit) (ts : List (Out A)) → Answers us (claim_events seat ts) (us ++ units_of ts)
answers_claims seat us [] = sym (append-nil us)
answers_claims seat us (t ∷ ts) =
    subst (λ l. Answers (us ++ t.unit ∷ []) (claim_events seat ts) l) (append_assoc us (t.unit ∷ []) (units_of ts)) (answers_claims seat (us ++ t.unit ∷ []) ts)

-- the first of a list is taken
pub first_taken : {X : Type 0} (xs : List X) (x : X) (ys : List X) → 0 < length xs → x ≡ slice_index_or xs 0 x
    → ys ≡ remove xs 0 → xs ≡ x ∷ ys
first_taken [] x ys some e d = absurd (omega arith)
first_taken (z ∷ zs) x ys some e d = ap (λ w. w ∷ zs) (sym e) ∙ ap (λ l. x ∷ l) (sym d)

pub length-tickets : {C B A : Type 0} (done : List (Done C B A)) → length (tickets_of done) ≡ length done
length-tickets [] = refl
length-tickets (d ∷ ds) = let e = length-tickets ds in omega arith

pub all_push : {X : Type 0} (P : X → Type 0) → (xs : List X) (x : X) → AllByRecursion P xs → P x → AllByRecursion P (xs ++ x ∷ [])
all_push P [] x a p = (p, tt)
all_push P (y ∷ ys) x a p = (a.0, all_push P ys x a.1 p)

-- one more of the tickets is worked on
pub worked_more : {C B A : Type 0} (all : List (Out A)) (done : List (Done C B A)) (one : Done C B A) (t : Out A) (left : List (Out A))
    → one.ticket ≡ t
    → all ≡ tickets_of done ++ t ∷ left → all ≡ tickets_of (done ++ one ∷ []) ++ left
worked_more all done one t left own e =
    e ∙ ap (λ s. tickets_of done ++ s ∷ left) (sym own) ∙ sym (append_assoc (tickets_of done) (one.ticket ∷ []) left)
    ∙ ap (λ l. l ++ left) (sym (map-append (λ d. d.ticket) done (one ∷ [])))

-- where no ticket is left, all are those of works
pub none_left : {C B A : Type 0} (tickets : List (Out A)) (done : List (Done C B A)) (left : List (Out A)) (n : ℕ) → n ≡ length left
    → (n == 0) ≡ true → tickets ≡ tickets_of done ++ left → tickets_of done ≡ tickets
none_left tickets done [] n len test whole = sym (whole ∙ append-nil (tickets_of done))
none_left tickets done (x ∷ left) n len test whole = let none : n ≡ 0 = grind (arith, nat_tests) in absurd (omega arith)

none_out : {A : Type 0} (b : BookState A) → AreOutOf b []
unfolding IsDistinct
none_out b = record { each = tt; distinct = tt }

module _ {B : Type 0} where
  abbrev worked : ShownSeat Event B → List Event → List Event → ShownSeat Event B
  worked s log events = record s { seen = log; mine = s.mine ++ events }

  pub serves_not : (us : List WorkUnit) (a : ShownSeat Event B) → Serves us us a a
  serves_not us a = record {
    log = a.seen;
    events = [];
    begins = ([], sym (append-nil a.seen));
    answered = refl;
    seat = ap (λ l. record a { mine = l }) (sym (append-nil a.mine));
  }

  pub serves_then : (u v w : List WorkUnit) (a b c : ShownSeat Event B) → Serves u v a b → Serves v w b c → Serves u w a c
  serves_then u v w a b c p q = record {
    log = q.log;
    events = p.events ++ q.events;
    begins = starts_then a.seen p.log q.log p.begins (subst (StartsWith q.log) (ap (λ s. s.seen) p.seat) q.begins);
    answered = answers_then u p.events q.events v w p.answered q.answered;
    seat = q.seat ∙ ap (λ s. worked s q.log q.events) p.seat
        ∙ ap (λ m. record a { seen = q.log; mine = m }) (append_assoc a.mine p.events q.events);
  }

  -- a seat that served is ready again
  pub ready_served : (table : TableId) (base : B) (u v : List WorkUnit) (a b : ShownSeat Event B) → Serves u v a b
      → IsReady table base a → IsReady table base b
  ready_served table base u v a b s r =
      (ap (λ x. x.table) s.seat ∙ r.0, ap (λ x. x.holds) s.seat ∙ r.1, r.2 ∙ sym (ap (λ x. x.base) s.seat))

  module _ {A : Type 0} (analysis : B → Analysis A) where
    -- no tickets are out to any seat
    pub no_tickets : (table : TableId) (base : B) (s : ShownSeat Event B) → IsReady table base s → AreOutTo analysis s []
    no_tickets table base s r = record { base = base; base_is = r.2; out = none_out (replay (analysis base) s.seen); seat = tt }

    -- a ticket that has waited longest is given back
    pub back_serves : (a b : ShownSeat Event B) (t : Out A) (us : List WorkUnit)
        → Ends analysis a t (GiveBack t.seat t.unit) b → Serves (t.unit ∷ us) us a b
    back_serves a b t us e = record {
      log = e.log ++ GiveBack t.seat t.unit ∷ [];
      events = GiveBack t.seat t.unit ∷ [];
      begins = starts_then a.seen e.log (e.log ++ GiveBack t.seat t.unit ∷ []) e.begins (GiveBack t.seat t.unit ∷ [], refl);
      answered = (refl, refl);
      seat = e.seat;
    }

    -- works are posted, and units are claimed behind those that aren't
    pub exchange_serves : {C : Type 0} (a b : ShownSeat Event B) (done : List (Done C B A)) (want share : ℕ) (r : Exchanged C B A)
        → Exchanges analysis a done want share r b
        → Serves (units_of (tickets_of done)) (units_of (tickets_of r.unposted.items ++ r.tickets.items)) a b
    exchange_serves a b done want share r x =
        let posts = post_events (tickets_of x.posted) in
        let claims = claim_events a.number r.tickets.items in
        let left = units_of (tickets_of r.unposted.items) in
        let split : units_of (tickets_of done) ≡ units_of (tickets_of x.posted) ++ left =
        ap (λ ds. units_of (tickets_of ds)) x.whole ∙ ap (λ ts. units_of ts) (map-append (λ d. d.ticket) x.posted r.unposted.items)
        ∙ map-append (λ t. t.unit) (tickets_of x.posted) (tickets_of r.unposted.items) in
        let wait : units_of (tickets_of r.unposted.items ++ r.tickets.items) ≡ left ++ units_of r.tickets.items =
        map-append (λ t. t.unit) (tickets_of r.unposted.items) r.tickets.items in
        record {
          log = x.log ++ (posts ++ claims);
          events = posts ++ claims;
          begins = starts_then a.seen x.log (x.log ++ (posts ++ claims)) x.begins (posts ++ claims, refl);
          answered = answers_then (units_of (tickets_of done)) posts claims left (units_of (tickets_of r.unposted.items ++ r.tickets.items))
              (subst (λ w. Answers w posts left) (sym split) (answers_posts (tickets_of x.posted) left))
              (subst (λ l. Answers left claims l) (sym wait) (answers_claims a.number left r.tickets.items));
          seat = x.seat;
        }

    -- where memory didn't run out all works are posted, and the tickets are few
    told_few : {D : Type 0} (b : BookState A) (want share : ℕ) (unposted : List D) (ts : List (Out A)) (last : Last) → (last ≡ Memory → ⊥)
        → TellsLast b want share unposted ts last → (unposted ≡ []) × (length ts ≤ want)
    told_few b want share unposted ts Full other h = let e = h.1 in (h.0, omega arith)
    told_few b want share unposted ts Shared other h = let e = h.2 in (h.0, omega arith)
    told_few b want share unposted ts Idle other h = let e = h.1 in (h.0, omega arith)
    told_few b want share unposted ts Finished other h = let e = ap length h.1 in (h.0, omega arith)
    told_few b want share unposted ts Memory other h = absurd (other refl)

    told_finished : {D : Type 0} (b : BookState A) (want share : ℕ) (unposted : List D) (ts : List (Out A)) (last : Last) → last ≡ Finished
        → TellsLast b want share unposted ts last → ts ≡ []
    told_finished b want share unposted ts last e h = let at : TellsLast b want share unposted ts Finished = subst (λ l. TellsLast b want share unposted ts l) e h in at.1

    pub exchange_goes_on : {C : Type 0} (a b : ShownSeat Event B) (done : List (Done C B A)) (want share : ℕ) (r : Exchanged C B A) (tickets : List (Out A))
        → tickets_of done ≡ tickets
        → want ≤ 4 → (r.last ≡ Memory → ⊥) → Exchanges analysis a done want share r b → GoesOn analysis tickets a r.tickets.items b
    exchange_goes_on a b done want share r tickets same most other x =
        let few = told_few (replay (analysis x.base) b.seen) want share r.unposted.items r.tickets.items r.last other x.last_is in
        let count = few.1 in
        record {
          serves = subst (λ ts. Serves (units_of ts) (units_of r.tickets.items) a b) same
              (subst (λ ds. Serves (units_of (tickets_of done)) (units_of (tickets_of ds ++ r.tickets.items)) a b) few.0 (exchange_serves a b done want share r x));
          out = subst (λ ds. AreOutTo analysis b (tickets_of ds ++ r.tickets.items)) few.0 x.still_out;
          few = omega arith;
        }

    pub exchange_finished : {C : Type 0} (a b : ShownSeat Event B) (done : List (Done C B A)) (want share : ℕ) (r : Exchanged C B A)
        → Exchanges analysis a done want share r b
        → r.last ≡ Finished → r.tickets.items ≡ []
    exchange_finished a b done want share r x e = told_finished (replay (analysis x.base) b.seen) want share r.unposted.items r.tickets.items r.last e x.last_is

-- THE WHOLE JOURNAL

each_append : (xs ys : List (ℕ × List Event)) → EachAnswered xs → EachAnswered ys → EachAnswered (xs ++ ys)
each_append [] ys h k = k
each_append (x ∷ xs) ys h k = (h.0, each_append xs ys h.1 k)

-- whatever number has the events that stand with it, they are answered
pub each_under : (n : ℕ) (seats : List (ℕ × List Event)) → EachAnswered seats → AreAnswered (events_under n seats)
each_under n [] h = refl
each_under n (seat ∷ seats) h = cond_both (seat.0 == n) seat.1 (events_under n seats) AreAnswered (λ _. h.0) (λ _. each_under n seats h.1)

module _ {B : Type 0} where
  -- a seat that has worked, and one that has taken in another
  pub works_answered : (a b : ShownSeat Event B) → Works a b → EachAnswered (seats_known a) → EachAnswered (seats_known b)
  works_answered a b w h = subst (λ s. EachAnswered (seats_known s)) (sym w.seat) (answers_then [] a.mine w.events [] [] h.0 w.answered, h.1)

  pub joined_answered : (a b : ShownSeat Event B) → EachAnswered (seats_known a) → EachAnswered (seats_known b)
      → EachAnswered (seats_known (seats_joined a b))
  joined_answered a b h k = (h.0, each_append a.ended (seats_known b) h.1 k)

  -- a seat that has worked has taken in none
  pub works_take_in : (table : TableId) (base : B) (a b : ShownSeat Event B) → IsReady table base a → Works a b → TakesIn a b
  works_take_in table base a b r w = record {
    begins = subst (λ s. StartsWith s.seen a.seen) (sym w.seat) w.begins;
    table = ap (λ s. s.table) w.seat;
    seats = ap (λ s. s.seats) w.seat;
    base = ap (λ s. s.base) w.seat;
    idle = ap (λ s. s.holds) w.seat ∙ r.1;
    stands = subst (λ s. s.stands + a.made ≡ a.stands + s.made) (sym w.seat) refl;
  }

  -- one that gives a seat, and takes it in once it has worked
  pub takes_in_more : (a b split new other joined : ShownSeat Event B) → TakesIn a b → split ≡ seat_split b
      → new ≡ new_seat b → Works new other
      → joined ≡ seats_joined split other → StartsWith joined.seen split.seen → TakesIn a joined
  takes_in_more a b split new other joined t s n w j begins =
      let one : other.stands ≡ 1 = ap (λ x. x.stands) w.seat ∙ ap (λ x. x.stands) n in
      let none : other.made ≡ 0 = ap (λ x. x.made) w.seat ∙ ap (λ x. x.made) n in
      let stands : joined.stands ≡ split.stands + other.stands = ap (λ x. x.stands) j in
      let made : joined.made ≡ split.made + other.made = ap (λ x. x.made) j in
      let stood : split.stands ≡ b.stands = ap (λ x. x.stands) s in
      let gave : split.made ≡ b.made + 1 = ap (λ x. x.made) s in
      let was : b.stands + a.made ≡ a.stands + b.made = t.stands in
      record {
        begins = starts_then a.seen b.seen joined.seen t.begins (subst (StartsWith joined.seen) (ap (λ x. x.seen) s) begins);
        table = ap (λ x. x.table) j ∙ ap (λ x. x.table) s ∙ t.table;
        seats = ap (λ x. x.seats) j ∙ ap (λ x. x.seats) s ∙ t.seats;
        base = ap (λ x. x.base) j ∙ ap (λ x. x.base) s ∙ t.base;
        idle = ap (λ x. x.holds) j ∙ ap (λ x. x.holds) s ∙ t.idle;
        stands = omega arith;
      }

  -- what it has answered stays so
  pub answered_more : (b split new other joined : ShownSeat Event B) → split ≡ seat_split b → new ≡ new_seat b → Works new other
      → joined ≡ seats_joined split other → EachAnswered (seats_known b) → EachAnswered (seats_known joined)
  answered_more b split new other joined s n w j known =
      let own : EachAnswered (seats_known split) = subst (λ x. EachAnswered (seats_known x)) (sym s) known in
      let none : EachAnswered (seats_known new) = subst (λ x. EachAnswered (seats_known x)) (sym n) (refl, tt) in
      subst (λ x. EachAnswered (seats_known x)) (sym j) (joined_answered split other own (works_answered new other w none))

  pub ready_later : (table : TableId) (base : B) (a b : ShownSeat Event B) → IsReady table base a → TakesIn a b → IsReady table base b
  ready_later table base a b r t = (t.table ∙ r.0, t.idle, r.2 ∙ sym t.base)
