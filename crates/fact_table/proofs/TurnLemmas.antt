-- Turns of a seat at the book.
use Rattle.std.proofs.Common.{◌≡◌, ◌≢◌, ℕ, ◌==◌, Bool, true, false, cond, List, [], ◌∷◌, ◌++◌, length, Some, Result, Ok, Err, IfOk, OnOk, OnErr, sym, refl, ap, ◌∙◌, subst, append-nil, append_assoc, arith, length-append, eq-eqb, true≢false, inr, IsTrue, not}
use Rattle.std.proofs.Math.Path.{ap₂}
use Rattle.std.specs.List.{AllByRecursion}
use Rattle.std.proofs.Math.Seq.{drop-append_seam}
use Rattle.std.proofs.lemmas.List.{nil_from_length}
use Rattle.std.proofs.lemmas.List.Elements.{All-nil, All-cons, All-append, filter-append}
use Rattle.std.proofs.lemmas.Option.{same_Some}
use Rattle.call_context.specs.declared.node.Unit.{Unit as WorkUnit}
use Rattle.chip_analysis.specs.Analysis.{Analysis}
use Rattle.fact_table.specs.Exchange.{AreClaimed, AreOutOf, AreShared, ExchangesOn, TellsLast, claim_events, post_events, tickets_of}
use Rattle.fact_table.specs.Seats.{looked, recorded_all, claimed_seat, Looks, IsOutTo, AreOutTo, Ends, Claims, Exchanges}
use Rattle.fact_table.specs.declared.exchange.Exchanged.{Exchanged}
use Rattle.fact_table.specs.declared.exchange.Last.{Last}
use Rattle.fact_table.specs.declared.exchange.Last.TheVariants.{Memory}
use Rattle.fact_table.proofs.ExchangeLemmas.{Beside, all_append, all_both, all_map, others_out}
use Rattle.round_core.specs.Answers.{AnswersClaim}
use Rattle.book_rules.specs.Claimable.{HasAtLeast}
use Rattle.book_rules.specs.Counts.{seat_of, NoneOfSeat, unit_of}
use Rattle.book_rules.specs.Kept.{Kept, with_event, IsOutOf}
use Rattle.book_rules.specs.Machine.{Out, out_at, replay, IsLegalJournal}
use Rattle.book_rules.specs.declared.event.Event.{Event}
use Rattle.book_rules.specs.declared.event.Event.TheVariants.{Claim, Post}
use Rattle.round_core.specs.declared.ticket.Claimed.{Claimed}
use Rattle.round_core.specs.declared.ticket.Claimed.TheVariants.{Ticket, Idle, Finished}
use Rattle.round_core.specs.declared.ticket.Done.{Done}
use Rattle.turn_table.specs.Events.{StartsWith, AllOf, events_of}
use Rattle.turn_table.specs.Shown.{ShownSeat, IsOwn, turn_begun, turn_ended}

-- an event that doesn't count as the seat's is another's
other_of : (number : ℕ) (x : Event) (rest : List Event) (b : Bool) → (seat_of x == number) ≡ b → cond b (x ∷ rest) rest ≡ []
    → (seat_of x ≢ number) × (rest ≡ [])
other_of number x rest true e h = absurd (cc)
other_of number x rest false e h = ((λ s. true≢false (sym (eq-eqb (seat_of x) number s) ∙ e)), h)

none_of : (number : ℕ) (events : List Event) → events_of seat_of number events ≡ [] → NoneOfSeat number events
none_of number [] e = tt
none_of number (x ∷ xs) e = let o = other_of number x (events_of seat_of number xs) (seat_of x == number) refl e in (o.0, none_of number xs o.1)

-- behind a front that has all events of a seat there are none
none_since : (number : ℕ) (seen rest mine : List Event) → events_of seat_of number seen ≡ mine
    → events_of seat_of number (seen ++ rest) ≡ mine
    → NoneOfSeat number rest
none_since number seen rest mine a b =
    let ev : List Event → List Event = events_of seat_of number in
    let parts : ev (seen ++ rest) ≡ ev seen ++ ev rest = filter-append (λ e. seat_of e == number) seen rest in
    none_of number rest (nil_from_length (ev rest) (omega (arith, ap length parts, ap length a, ap length b, length-append (ev seen) (ev rest))))

-- what is out to a seat stays out through the events of others
abbrev pub Stays : {A : Type 0} → Analysis A → Type 0
Stays {A = A} m = (journal more : List Event) (unit : WorkUnit) (o : Out A) → IsLegalJournal m (journal ++ more)
    → out_at (replay m journal).out unit ≡ Some o → NoneOfSeat o.seat more → out_at (replay m (journal ++ more)).out unit ≡ Some o

-- so a ticket that is out to a seat is out when its turn begins
pub out_still : {A : Type 0} (m : Analysis A) (number : ℕ) (seen log mine : List Event) (ticket : Out A) → Stays m → StartsWith log seen
    → events_of seat_of number seen ≡ mine → events_of seat_of number log ≡ mine → IsLegalJournal m log
    → IsOutOf (replay m seen) ticket → ticket.seat ≡ number → IsOutOf (replay m log) ticket
out_still m number seen log mine ticket stays begins a b legal out seat =
    let more = begins.0 in
    let none : NoneOfSeat number more = none_since number seen more mine a (subst (λ l. events_of seat_of number l ≡ mine) begins.1 b) in
    subst (λ l. IsOutOf (replay m l) ticket) (sym begins.1)
    (stays seen more ticket.unit ticket (subst (IsLegalJournal m) begins.1 legal) out (subst (λ n. NoneOfSeat n more) (sym seat) none))

-- the seat behind a turn that added these events
pub behind_turn : {B : Type 0} (old begun new : ShownSeat Event B) (log added journal : List Event) → old.holds ≡ false
    → begun ≡ turn_begun old log
    → new ≡ turn_ended begun journal → journal ≡ log ++ added → new ≡ record old { seen = log ++ added; mine = old.mine ++ added }
behind_turn old begun new log added journal idle b n j =
    n ∙ ap₂ (λ s l. turn_ended s l) b j
    ∙ ap₂ (λ h l. record old { holds = h; seen = log ++ added; mine = old.mine ++ l }) (sym idle) (drop-append_seam log added)

pub looked_turn : {B : Type 0} (old begun new : ShownSeat Event B) (log journal : List Event) → old.holds ≡ false
    → begun ≡ turn_begun old log
    → new ≡ turn_ended begun journal → journal ≡ log → new ≡ looked old log
looked_turn old begun new log journal idle b n j =
    behind_turn old begun new log [] journal idle b n (j ∙ sym (append-nil log))
    ∙ ap₂ (λ s m. record old { seen = s; mine = m }) (append-nil log) (append-nil old.mine)

-- the events of a seat's tickets are the seat's
posts_of_seat : {A : Type 0} (number : ℕ) (ts : List (Out A)) → AllByRecursion (λ t. t.seat ≡ number) ts
    → AllOf seat_of number (post_events ts)
posts_of_seat number [] a = All-nil (λ x. seat_of x ≡ number)
posts_of_seat number (t ∷ ts) a = All-cons (λ x. seat_of x ≡ number) (Post t.seat t.unit) (post_events ts) a.0 (posts_of_seat number ts a.1)

claims_of_seat : {A : Type 0} (number : ℕ) (ts : List (Out A)) → AllOf seat_of number (claim_events number ts)
claims_of_seat number [] = All-nil (λ x. seat_of x ≡ number)
claims_of_seat number (t ∷ ts) = All-cons (λ x. seat_of x ≡ number) (Claim number t.unit) (claim_events number ts) refl (claims_of_seat number ts)

seats_split : {C B A : Type 0} (number : ℕ) (xs ys : List (Done C B A)) → AllByRecursion (λ t. t.seat ≡ number) (tickets_of (xs ++ ys))
    → AllByRecursion (λ t. t.seat ≡ number) (tickets_of xs) × AllByRecursion (λ t. t.seat ≡ number) (tickets_of ys)
seats_split number [] ys a = (tt, a)
seats_split number (x ∷ xs) ys a = let r = seats_split number xs ys a.1 in ((a.0, r.0), r.1)

seats_shared : {A : Type 0} (m : Analysis A) (seat share : ℕ) (journal : List Event) (ts : List (Out A))
    → AreShared m seat share journal ts → AllByRecursion (λ t. t.seat ≡ seat) ts
seats_shared m seat share journal [] a = tt
seats_shared m seat share journal (t ∷ ts) a = (a.1.seat_is, seats_shared m seat share (journal ++ Claim seat t.unit ∷ []) ts a.2)

seats_claimed : {A : Type 0} (m : Analysis A) (seat share : ℕ) (journal : List Event) (ts : List (Out A))
    → AreClaimed m seat share journal ts → AllByRecursion (λ t. t.seat ≡ seat) ts
seats_claimed m seat share journal [] a = tt
seats_claimed m seat share journal (t ∷ ts) a = (a.0.seat_is, seats_shared m seat share (journal ++ Claim seat t.unit ∷ []) ts a.1)

-- what a call adds to the book's journal, all of it the seat's
abbrev pub Grows : {B : Type 0} → ℕ → Kept B → Kept B → Type 0
Grows number k k' = (added : List Event) × (k'.journal ≡ k.journal ++ added) × AllOf seat_of number added

module _ {B : Type 0} where
  pub grows_not : (number : ℕ) (k k' : Kept B) → k' ≡ k → Grows number k k'
  grows_not number k k' e = ([], ap (λ b. b.journal) e ∙ sym (append-nil k.journal), All-nil (λ x. seat_of x ≡ number))

  pub grows_by : (number : ℕ) (k k' : Kept B) (event : Event) → k' ≡ with_event k event → seat_of event ≡ number → Grows number k k'
  grows_by number k k' event e s = (event ∷ [], ap (λ b. b.journal) e, All-cons (λ x. seat_of x ≡ number) event [] s (All-nil (λ x. seat_of x ≡ number)))

  pub grows_then : (number : ℕ) (a b c : Kept B) → Grows number a b → Grows number b c → Grows number a c
  grows_then number a b c u v = (
    u.0 ++ v.0,
    v.1 ∙ ap (λ l. l ++ v.0) u.1 ∙ append_assoc a.journal u.0 v.0,
    All-append (λ x. seat_of x ≡ number) u.0 v.0 u.2 v.2,
  )

  module _ {A : Type 0} (m : Analysis A) where
    pub base_kept : {C : Type 0} (number : ℕ) (k k' : Kept B) (claimed : Claimed C B A)
        → AnswersClaim m k k' number claimed → k'.base ≡ k.base
    base_kept number k k' (Ticket t) a = ap (λ b. b.base) a.2
    base_kept number k k' Idle a = ap (λ b. b.base) a.0
    base_kept number k k' Finished a = ap (λ b. b.base) a.0

    grows_claim : {C : Type 0} (number : ℕ) (k k' : Kept B) (claimed : Claimed C B A)
        → AnswersClaim m k k' number claimed → Grows number k k'
    grows_claim number k k' (Ticket t) a = grows_by number k k' (Claim number t.unit) a.2 refl
    grows_claim number k k' Idle a = grows_not number k k' a.0
    grows_claim number k k' Finished a = grows_not number k k' a.0

    pub grows_claimed : {C X : Type 0} (number : ℕ) (k k' : Kept B) (r : Result (Claimed C B A) X)
        → IfOk r (λ claimed. AnswersClaim m k k' number claimed)
        → OnErr r (k' ≡ k) → Grows number k k'
    grows_claimed number k k' (Ok claimed) a e = grows_claim number k k' claimed a
    grows_claimed number k k' (Err x) a e = grows_not number k k' e

    pub grows_exchange : {C : Type 0} (number : ℕ) (k k' : Kept B) (done : List (Done C B A)) (want share : ℕ) (unposted : List (Done C B A)) (ts : List (Out A)) (last : Last)
        → AllByRecursion (λ t. t.seat ≡ number) (tickets_of done)
        → ExchangesOn m number k done want share unposted ts last k' → Grows number k k'
    grows_exchange number k k' done want share unposted ts last seats x = (
      post_events (tickets_of x.posted) ++ claim_events number ts,
      ap (λ b. b.journal) x.book,
      All-append (λ e. seat_of e ≡ number) (post_events (tickets_of x.posted)) (claim_events number ts)
          (posts_of_seat number (tickets_of x.posted) (seats_split number x.posted unposted (subst (λ ds. AllByRecursion (λ t. t.seat ≡ number) (tickets_of ds)) x.whole seats)).0)
          (claims_of_seat number ts),
    )

  -- a seat's turn began with the book
  pub record IsBegun (old begun : ShownSeat Event B) (k : Kept B) : Type 0 where
    pub base : Some k.base ≡ old.base
    pub idle : old.holds ≡ false
    pub begun_is : begun ≡ turn_begun old k.journal
    pub begins : StartsWith k.journal old.seen

  -- the same, where the book stands behind a pointer
  pub begun_by : {old begun : ShownSeat Event B} {k held : Kept B} → k ≡ held → Some held.base ≡ old.base → old.holds ≡ false
      → begun ≡ turn_begun old held.journal → StartsWith held.journal old.seen → IsBegun old begun k
  begun_by {old} {begun} {k} {held} same base idle begun_is begins =
      subst (λ b. IsBegun old begun b) (sym same) (record { base = base; idle = idle; begun_is = begun_is; begins = begins })

  -- a seat's turn at the book, and what the call made of both
  pub record IsTurn (old begun new : ShownSeat Event B) (k k' : Kept B) : Type 0 where
    pub start : IsBegun old begun k
    pub new_is : new ≡ turn_ended begun k'.journal

  module _ {A : Type 0} (analysis : B → Analysis A) where
    pub looks : (old begun new : ShownSeat Event B) (k k' : Kept B) → IsTurn old begun new k k' → k' ≡ k → Looks old new
    looks old begun new k k' t e = record {
      log = k.journal;
      begins = t.start.begins;
      seat = looked_turn old begun new k.journal k'.journal t.start.idle t.start.begun_is t.new_is (ap (λ b. b.journal) e);
    }

    pub ends : (old begun new : ShownSeat Event B) (k k' : Kept B) (ticket : Out A) (event : Event) → IsTurn old begun new k k'
        → IsOutOf (replay (analysis k.base) k.journal) ticket → k' ≡ with_event k event → Ends analysis old ticket event new
    ends old begun new k k' ticket event t out e = record {
      base = k.base;
      base_is = t.start.base;
      log = k.journal;
      begins = t.start.begins;
      out = out;
      seat = behind_turn old begun new k.journal (event ∷ []) k'.journal t.start.idle t.start.begun_is t.new_is (ap (λ b. b.journal) e);
    }

    -- the answer of the book, told of the seat
    claims_as : {C : Type 0} (old new : ShownSeat Event B) (k k' : Kept B) (claimed : Claimed C B A)
        → Some k.base ≡ old.base → StartsWith k.journal old.seen
        → k'.base ≡ k.base → k'.journal ≡ new.seen → AnswersClaim (analysis k.base) k k' old.number claimed
        → new ≡ claimed_seat old k.journal claimed
        → Claims analysis old claimed new
    claims_as old new k k' claimed base begins b j a s = record {
      base = k.base;
      base_is = base;
      log = k.journal;
      begins = begins;
      answer = subst (λ x. AnswersClaim (analysis k.base) k x old.number claimed) (ap₂ (λ c l. record { base = c; journal = l }) b j) a;
      seat = s;
    }

    claimed_turn : {C : Type 0} (old begun new : ShownSeat Event B) (k k' : Kept B) (claimed : Claimed C B A) → IsTurn old begun new k k'
        → AnswersClaim (analysis k.base) k k' old.number claimed → Claims analysis old claimed new
    claimed_turn old begun new k k' (Ticket ticket) t a =
        let s = behind_turn old begun new k.journal (Claim old.number ticket.unit ∷ []) k'.journal t.start.idle t.start.begun_is t.new_is (ap (λ b. b.journal) a.2) in
        claims_as old new k k' (Ticket ticket) t.start.base t.start.begins (ap (λ b. b.base) a.2) (ap (λ b. b.journal) a.2 ∙ sym (ap (λ x. x.seen) s)) a s
    claimed_turn old begun new k k' Idle t a =
        let s = looked_turn old begun new k.journal k'.journal t.start.idle t.start.begun_is t.new_is (ap (λ b. b.journal) a.0) in
        claims_as old new k k' Idle t.start.base t.start.begins (ap (λ b. b.base) a.0) (ap (λ b. b.journal) a.0 ∙ sym (ap (λ x. x.seen) s)) a s
    claimed_turn old begun new k k' Finished t a =
        let s = looked_turn old begun new k.journal k'.journal t.start.idle t.start.begun_is t.new_is (ap (λ b. b.journal) a.0) in
        claims_as old new k k' Finished t.start.base t.start.begins (ap (λ b. b.base) a.0) (ap (λ b. b.journal) a.0 ∙ sym (ap (λ x. x.seen) s)) a s

    pub claims_ok : {C X : Type 0} (old begun new : ShownSeat Event B) (k k' : Kept B) (r : Result (Claimed C B A) X)
        → IsTurn old begun new k k'
        → IfOk r (λ claimed. AnswersClaim (analysis k.base) k k' old.number claimed) → IfOk r (λ claimed. Claims analysis old claimed new)
    claims_ok old begun new k k' (Ok claimed) t a = claimed_turn old begun new k k' claimed t a
    claims_ok old begun new k k' (Err x) t a = tt

    -- tickets that are out to a seat are out when its turn begins
    pub outs_at_turn : (old begun : ShownSeat Event B) (k : Kept B) (tickets : List (Out A))
        → ((base : B) → Stays (analysis base)) → IsBegun old begun k → IsOwn seat_of old → IsOwn seat_of begun
        → IsLegalJournal (analysis k.base) k.journal → AreOutTo analysis old tickets → AreOutOf (replay (analysis k.base) k.journal) tickets
    outs_at_turn old begun k tickets stays start own own' legal out =
        let same : out.base ≡ k.base = same_Some out.base k.base (out.base_is ∙ sym start.base) in
        record {
          each = all_map _ (IsOutOf (replay (analysis k.base) k.journal)) tickets
              (λ t h. out_still (analysis k.base) old.number old.seen k.journal old.mine t (stays k.base) start.begins own (subst (IsOwn seat_of) start.begun_is own') legal
              (subst (λ c. IsOutOf (replay (analysis c) old.seen) t) same h.0) h.1) (all_both _ _ tickets out.out.each out.seat);
          distinct = out.out.distinct;
        }

    -- the tickets behind one that ends are still out
    pub outs_behind : (old begun new : ShownSeat Event B) (k k' : Kept B) (ticket : Out A) (event : Event) (tickets : List (Out A))
        → ((base : B) → Stays (analysis base))
        → ((base : B) → Beside (analysis base)) → unit_of event ≡ ticket.unit → IsTurn old begun new k k'
        → IsOwn seat_of old → IsOwn seat_of begun
        → IsLegalJournal (analysis k.base) k.journal → k' ≡ with_event k event
        → AreOutTo analysis old (ticket ∷ tickets) → AreOutTo analysis new tickets
    outs_behind old begun new k k' ticket event tickets stays beside own_unit t own own' legal e out =
        let m = analysis k.base in
        let at = outs_at_turn old begun k (ticket ∷ tickets) stays t.start own own' legal out in
        let seen : k.journal ++ event ∷ [] ≡ new.seen = sym (ap (λ b. b.journal) e) ∙ sym (ap (λ s. s.seen) t.new_is) in
        record {
          base = k.base;
          base_is = t.start.base ∙ sym (ap (λ s. s.base) t.new_is ∙ ap (λ s. s.base) t.start.begun_is);
          out = subst (λ l. AreOutOf (replay m l) tickets) seen (others_out m (beside k.base) k.journal event ticket tickets own_unit at);
          seat = subst (λ n. AllByRecursion (λ s. s.seat ≡ n) tickets) (sym (ap (λ s. s.number) t.new_is ∙ ap (λ s. s.number) t.start.begun_is)) out.seat.1;
        }

    -- what an exchange on the book makes of the seat
    pub exchange_turn : {C : Type 0} (old begun new : ShownSeat Event B) (k k' : Kept B) (done : List (Done C B A)) (want share : ℕ) (r : Exchanged C B A)
        → IsTurn old begun new k k' → AreOutOf (replay (analysis k.base) k.journal) (tickets_of done)
        → AllByRecursion (λ t. t.seat ≡ old.number) (tickets_of done)
        → ExchangesOn (analysis k.base) old.number k done want share r.unposted.items r.tickets.items r.last k'
        → (IsTrue (not r.left) → HasAtLeast (replay (analysis k'.base) k'.journal) 1 → ⊥) → Exchanges analysis old done want share r new
    exchange_turn old begun new k k' done want share r t out seats x none =
        let m = analysis k.base in
        let number : old.number ≡ new.number = sym (ap (λ s. s.number) t.new_is ∙ ap (λ s. s.number) t.start.begun_is) in
        let base : Some k.base ≡ new.base = t.start.base ∙ sym (ap (λ s. s.base) t.new_is ∙ ap (λ s. s.base) t.start.begun_is) in
        let seen : k'.journal ≡ new.seen = sym (ap (λ s. s.seen) t.new_is) in
        let left : AllByRecursion (λ s. s.seat ≡ old.number) (tickets_of r.unposted.items) =
        (seats_split old.number x.posted r.unposted.items (subst (λ ds. AllByRecursion (λ s. s.seat ≡ old.number) (tickets_of ds)) x.whole seats)).1 in
        record {
          base = k.base;
          base_is = t.start.base;
          log = k.journal;
          begins = t.start.begins;
          out = out;
          posted = x.posted;
          whole = x.whole;
          claims = x.claims;
          seat = behind_turn old begun new k.journal (post_events (tickets_of x.posted) ++ claim_events old.number r.tickets.items) k'.journal t.start.idle t.start.begun_is t.new_is
              (ap (λ b. b.journal) x.book);
          still_out = record {
            base = k.base;
            base_is = base;
            out = subst (λ l. AreOutOf (replay m l) (tickets_of r.unposted.items ++ r.tickets.items)) seen x.out;
            seat = subst (λ n. AllByRecursion (λ s. s.seat ≡ n) (tickets_of r.unposted.items ++ r.tickets.items)) number
                (all_append (λ s. s.seat ≡ old.number) (tickets_of r.unposted.items) r.tickets.items left (seats_claimed m old.number share _ r.tickets.items x.claims));
          };
          last_is = subst (λ l. TellsLast (replay m l) want share r.unposted.items r.tickets.items r.last) seen x.last_is;
          none_left = subst (λ l. IsTrue (not r.left) → HasAtLeast (replay m l) 1 → ⊥) seen
              (subst (λ b. IsTrue (not r.left) → HasAtLeast (replay (analysis b) k'.journal) 1 → ⊥) (ap (λ b. b.base) x.book) none);
        }

    -- an exchange for which there is no memory before its turn
    pub exchange_none : {C : Type 0} (s : ShownSeat Event B) (done : List (Done C B A)) (want share : ℕ) (r : Exchanged C B A)
        → AreOutTo analysis s (tickets_of done)
        → r.unposted.items ≡ done → r.tickets.items ≡ [] → r.last ≡ Memory → r.left ≡ true → Exchanges analysis s done want share r s
    exchange_none s done want share r out left none last more =
        let m = analysis out.base in
        record {
          base = out.base;
          base_is = out.base_is;
          log = s.seen;
          begins = ([], sym (append-nil s.seen));
          out = out.out;
          posted = [];
          whole = sym left;
          claims = subst (λ ts. AreClaimed m s.number share (s.seen ++ []) ts) (sym none) tt;
          seat = ap₂ (λ l e. record s { seen = l; mine = e }) (sym (append-nil s.seen)) (sym (append-nil s.mine))
              ∙ ap (λ ts. recorded_all s s.seen (claim_events s.number ts)) (sym none);
          still_out = subst (λ ts. AreOutTo analysis s (tickets_of r.unposted.items ++ ts)) (sym none)
              (subst (λ ts. AreOutTo analysis s ts) (sym (append-nil (tickets_of r.unposted.items))) (subst (λ ds. AreOutTo analysis s (tickets_of ds)) (sym left) out));
          last_is = subst (λ l. TellsLast (replay m s.seen) want share r.unposted.items r.tickets.items l) (sym last) (inr none);
          none_left = λ no some. let bad : false ≡ true = subst (λ b. IsTrue (not b)) more no in absurd (cc);
        }

    pub out_at_turn : (old begun : ShownSeat Event B) (k : Kept B) (ticket : Out A)
        → ((base : B) → Stays (analysis base)) → IsBegun old begun k → IsOwn seat_of old → IsOwn seat_of begun
        → IsLegalJournal (analysis k.base) k.journal → IsOutTo analysis old ticket → IsOutOf (replay (analysis k.base) k.journal) ticket
    out_at_turn old begun k ticket stays start own own' legal out =
        let same : out.base ≡ k.base = same_Some out.base k.base (out.base_is ∙ sym start.base) in
        out_still (analysis k.base) old.number old.seen k.journal old.mine ticket (stays k.base) start.begins own (subst (IsOwn seat_of) start.begun_is own') legal
        (subst (λ c. IsOutOf (replay (analysis c) old.seen) ticket) same out.out) out.seat

    pub still_out : (old begun new : ShownSeat Event B) (k k' : Kept B) (ticket : Out A) → IsTurn old begun new k k' → k' ≡ k
        → IsOutOf (replay (analysis k.base) k.journal) ticket → IsOutTo analysis old ticket → IsOutTo analysis new ticket
    still_out old begun new k k' ticket t e out was =
        let s = looked_turn old begun new k.journal k'.journal t.start.idle t.start.begun_is t.new_is (ap (λ b. b.journal) e) in
        subst (λ x. IsOutTo analysis x ticket) (sym s) (record { base = k.base; base_is = t.start.base; out = out; seat = was.seat })

pub on_ok : {X Y P Q : Type 0} (r : Result X Y) → OnOk r P → (P → Q) → OnOk r Q
on_ok (Ok x) p f = f p
on_ok (Err x) p f = p

pub on_err : {X Y P Q : Type 0} (r : Result X Y) → OnErr r P → (P → Q) → OnErr r Q
on_err (Ok x) p f = p
on_err (Err x) p f = f p

pub grows_post : {B X Y : Type 0} (number : ℕ) (k k' : Kept B) (event : Event) (r : Result X Y)
    → OnOk r (k' ≡ with_event k event) → OnErr r (k' ≡ k)
    → seat_of event ≡ number → Grows number k k'
grows_post number k k' event (Ok x) a e s = grows_by number k k' event a s
grows_post number k k' event (Err y) a e s = grows_not number k k' e

-- so the turn may be passed
pub pass_adds : {B : Type 0} (old begun : ShownSeat Event B) (k k' : Kept B) → IsBegun old begun k → Grows begun.number k k'
    → (added : List Event) × (k'.journal ≡ begun.seen ++ added) × AllOf seat_of begun.number added
pass_adds old begun k k' start grows = (grows.0, grows.1 ∙ ap (λ s. s.seen ++ grows.0) (sym start.begun_is), grows.2)
