-- From what a contract shows of a seat to what its steps ask, and back.
use Rattle.std.proofs.Common.{◌≡◌, ℕ, ◌-◌, ◌%◌, ◌<◌, false, List, [], ◌∷◌, ◌++◌, length, drop, Option, Some, None, sym, refl, ap, ◌∙◌, subst, arith, append-nil, true≢false}
use mathlib.Core.Option.{some, some-injective}
use lib.ListN.{get_elem?}
use Rattle.atomic_table.specs.Seated.{TableId}
use Rattle.atomic_table.specs.Table.{Me, rest, Final, Seen}
use Rattle.turn_table.specs.Events.{events_of, events_under, AllOf, AllBelow}
use Rattle.turn_table.specs.Rule.{Kept}
use Rattle.turn_table.specs.Shown.{ShownSeat, shown, is_serving, IsAtRest, IsSeated, IsSeat, IsOwn, seats_known}
use Rattle.turn_table.specs.Views.{Stage, idle, waiting, serving, Standing, spent, seated, SeatedAnd, on, draws, serves, passes, gives, given_seat, catches_up, ticket_of, both_seats}
use Rattle.turn_table.specs.Plays.{Begins, Catches, Served, looked, passed}
use Rattle.turn_table.proofs.Lists.{events_more, events_own, events_others, drop_front}
use Rattle.turn_table.proofs.Comings.{MayClose, Closes, closes}

abbrev M : ℕ
M = 18446744073709551616

slot_or : {B : Type 0} → Option B → List (ℕ × Option B) → Option B
slot_or d [] = d
slot_or d (x ∷ xs) = x.1

pub slot_same : {B : Type 0} (x y : Option B) (xs ys : List (ℕ × Option B)) → (0, x) ∷ xs ≡ (0, y) ∷ ys → x ≡ y
unfolding slot_or
slot_same x y xs ys e = ap (slot_or x) e

module _ {E C : Type 0} where
  draws_waits : (m : Standing E C) (t : ℕ) → SeatedAnd m (λ v. v.stage ≡ idle) → SeatedAnd (on (draws t) m) (λ v. v.stage ≡ waiting t)
  draws_waits spent t h = absurd h
  draws_waits (seated v) t h = refl

  pub waits : {B : Type 0} (m : Standing E C) (n : Me (Option B) (Standing E C)) (t : ℕ) → n ≡ (on (draws t) m, [])
      → SeatedAnd m (λ v. v.stage ≡ idle) → SeatedAnd n.0 (λ v. v.stage ≡ waiting t)
  waits m n t e h = let f : Me (Option _) (Standing E C) → Standing E C = λ z. z.0 in subst (λ z. SeatedAnd z (λ v. v.stage ≡ waiting t)) (sym (ap f e)) (draws_waits m t h)

some_or : {B : Type 0} → B → Option B → B
some_or d None = d
some_or d (Some x) = x

pub Some-injective : {B : Type 0} (x y : B) → Some x ≡ Some y → x ≡ y
unfolding some_or
Some-injective x y e = ap (some_or x) e

pub with_rest : {B : Type 0} (z : Option B) (c : List (ℕ × Option B)) → c ≡ (0, z) ∷ [] → c ≡ (0, z) ∷ rest c
with_rest z c e = e ∙ ap (λ r. (0, z) ∷ r) (sym (ap rest e))

module _ {B E C : Type 0} (history : B → List E) (seat_of : E → ℕ) (base_of : B → C) where
  -- the seat of the view m, served with the ticket t, has taken the value
  abbrev pub Taken : Standing E C → ℕ → Me (Option B) (Standing E C) → Type 0
  Taken m t n = (x : B) × (n ≡ (on (serves t (history x)) m, (0, Some x) ∷ [])) × SeatedAnd m (Begins seat_of (base_of x) (history x))

  served_taken : (m : Standing E C) (t : ℕ) (n : Me (Option B) (Standing E C)) → SeatedAnd m (λ v. v.stage ≡ idle)
      → Served history seat_of base_of (on (draws t) m, []) n → Taken m t n
  served_taken spent t n h s = absurd h
  served_taken (seated v) t n h (x, e, b) = (x, e, record { seen = b.seen; own = b.own; base_is = b.base_is; to_give = b.to_give })

  drawn_ticket : (m : Standing E C) (t : ℕ) → SeatedAnd m (λ v. v.stage ≡ idle) → ticket_of (on (draws t) m) ≡ t
  drawn_ticket spent t h = absurd h
  drawn_ticket (seated v) t h = refl

  pub taken : (m : Standing E C) (n n' : Me (Option B) (Standing E C)) (t found ticket : ℕ) → n ≡ (on (draws t) m, [])
      → SeatedAnd m (λ v. v.stage ≡ idle) → ticket ≡ t % M → found ≡ ticket
      → looked history seat_of base_of n found n' → Taken m t n'
  taken m n n' t found ticket e idle_m is_ticket is_found look =
      let P : Me (Option B) (Standing E C) → Type 0 = λ z. looked history seat_of base_of z found n' in
      let l : P (on (draws t) m, []) = subst P e look in
      served_taken m t n' idle_m (l.0 (is_found ∙ is_ticket ∙ ap (λ k. k % M) (sym (drawn_ticket m t idle_m))))

  pub taken_slot : (m : Standing E C) (t : ℕ) (n : Me (Option B) (Standing E C)) → Taken m t n
      → (old : Option B) × (n.1 ≡ (0, old) ∷ rest n.1)
  taken_slot m t n (x, e, b) = let f : Me (Option B) (Standing E C) → List (ℕ × Option B) = λ z. z.1 in (Some x, with_rest (Some x) n.1 (ap f e))

  -- the value that stood in the slot
  pub taken_value : (m : Standing E C) (t : ℕ) (n : Me (Option B) (Standing E C)) (r : Option B) → (a : Taken m t n)
      → n.1 ≡ (0, r) ∷ rest n.1 → r ≡ Some a.0
  taken_value m t n r (x, e, b) is = let f : Me (Option B) (Standing E C) → List (ℕ × Option B) = λ z. z.1 in slot_same r (Some x) (rest n.1) [] (sym is ∙ ap f e)

  pub took : (m : Standing E C) (t : ℕ) (n new : Me (Option B) (Standing E C)) (r : Option B) (y : B) → Taken m t n
      → n.1 ≡ (0, r) ∷ rest n.1 → new ≡ (n.0, (0, None) ∷ rest n.1) → r ≡ Some y
      → (new ≡ (on (serves t (history y)) m, (0, None) ∷ [])) × SeatedAnd m (Begins seat_of (base_of y) (history y))
  took m t n new r y (x, e, b) is now has =
      let f : Me (Option B) (Standing E C) → List (ℕ × Option B) = λ z. z.1 in
      let same : x ≡ y = Some-injective x y (sym (slot_same r (Some x) (rest n.1) [] (sym is ∙ ap f e)) ∙ has) in
      let g : Me (Option B) (Standing E C) → Me (Option B) (Standing E C) = λ z. (z.0, (0, None) ∷ rest z.1) in
      let P : B → Type 0 = λ z. (new ≡ (on (serves t (history z)) m, (0, None) ∷ [])) × SeatedAnd m (Begins seat_of (base_of z) (history z)) in
      subst P same (now ∙ ap g e, b)

  -- the value lies in the slot again
  pub put : (old new : Me (Option B) (Standing E C)) (y : B) → new ≡ (old.0, (0, Some y) ∷ rest old.1)
      → old.1 ≡ (0, None) ∷ [] → new ≡ (old.0, (0, Some y) ∷ [])
  put old new y e held = let g : List (ℕ × Option B) → Me (Option B) (Standing E C) = λ z. (old.0, (0, Some y) ∷ rest z) in e ∙ ap g held

  pub put_passed : (old new after : Me (Option B) (Standing E C)) (y : B) → new ≡ (old.0, (0, Some y) ∷ [])
      → passed history new after → after ≡ (on (passes (history y)) old.0, [])
  put_passed old new after y e told =
      let f : Me (Option B) (Standing E C) → List (ℕ × Option B) = λ z. z.1 in
      let g : Me (Option B) (Standing E C) → Me (Option B) (Standing E C) = λ z. (on (passes (history y)) z.0, []) in
      told y (ap f e) ∙ ap g e

module _ {E C : Type 0} where
  pub both_seated : (m n : Standing E C) → SeatedAnd m (λ v. v.told ≡ [])
      → SeatedAnd n (λ w. (w.told ≡ []) × (w.stage ≡ idle)) → SeatedAnd (both_seats m n) (λ _. Unit {0})
  both_seated spent n h g = absurd h
  both_seated (seated v) spent h g = absurd g
  both_seated (seated v) (seated w) h g = tt

module _ {E C : Type 0} where
  shown_room : (id : TableId) (m : Standing E C) (s : ShownSeat E C) → shown id m ≡ s → 0 < s.room → SeatedAnd m (λ v. 0 < v.room)
  shown_room id spent s e p = let h : 0 ≡ s.room = ap (λ z. z.room) e in omega (arith, h, p)
  shown_room id (seated v) s e p = let h : v.room ≡ s.room = ap (λ z. z.room) e in omega (arith, h, p)

rests_idle : {B : Type 0} (st : Stage) (c : List (ℕ × Option B)) → IsAtRest st c → is_serving st ≡ false → st ≡ idle
rests_idle idle c r e = refl
rests_idle (waiting t) c r e = absurd r
rests_idle (serving t) c r e = absurd (true≢false e)

module _ {B E C : Type 0} (seat_of : E → ℕ) (number room : ℕ) where
  abbrev Is : Me (Option B) (Standing E C) → Type 0
  Is = IsSeat seat_of number room

  pub own_shown : (id : TableId) (n : Me (Option B) (Standing E C)) → Is n → IsOwn seat_of (shown id n.0)
  own_shown id n h = shown_own n.0 h
    where
      shown_own : (m : Standing E C) → SeatedAnd m (IsSeated seat_of number room n.1) → IsOwn seat_of (shown id m)
      shown_own spent h = absurd h
      shown_own (seated v) h = h.own

  -- a seat whose turn has begun
  served_is : (m : Standing E C) (c : List (ℕ × Option B)) (t : ℕ) (base : C) (h : List E) → Is (m, c)
      → SeatedAnd m (Begins seat_of base h) → Is (on (serves t h) m, (0, None) ∷ [])
  served_is spent c t base h is b = absurd is
  served_is (seated v) c t base h is b = record { number_is = is.number_is; room_is = is.room_is; told = is.told; own = b.own; first = is.first; to_give = b.to_give; rest = refl }

  pub served_seat : (m : Me (Option B) (Standing E C)) (n : Me (Option B) (Standing E C)) (t : ℕ) (base : C) (h : List E)
      → Is m → SeatedAnd m.0 (Begins seat_of base h) → n ≡ (on (serves t h) m.0, (0, None) ∷ []) → Is n
  served_seat m n t base h is b e = subst Is (sym e) (served_is m.0 m.1 t base h is b)

  -- a seat whose turn has ended
  passed_is : (id : TableId) (m : Standing E C) (c : List (ℕ × Option B)) (s : ShownSeat E C) (h added : List E)
      → Is (m, c) → shown id m ≡ s → h ≡ s.seen ++ added → AllOf seat_of s.number added → Is (on (passes h) m, [])
  passed_is id spent c s h added is e grown all = absurd is
  passed_is id (seated v) c s h added is e grown all =
      let seen_is : s.seen ≡ v.seen = sym (ap (λ z. z.seen) e) in
      let all' : AllOf seat_of v.number added = subst (λ (n : ℕ). AllOf seat_of n added) (sym (ap (λ z. z.number) e)) all in
      let grown' : h ≡ v.seen ++ added = grown ∙ ap (λ l. l ++ added) seen_is in
      record {
        number_is = is.number_is;
        room_is = is.room_is;
        told = is.told;
        own = ap (events_of seat_of v.number) grown' ∙ events_more seat_of v.number v.seen added ∙ ap (λ l. l ++ events_of seat_of v.number added) is.own
            ∙ ap (λ l. v.mine ++ l) (events_own seat_of v.number added all' ∙ sym (ap (drop (length v.seen)) grown' ∙ drop_front v.seen added));
        first = is.first;
        to_give = (λ n p q.
            let zero_number = is.first (omega (arith, p, q)) in
            ap (events_of seat_of n) grown' ∙ events_more seat_of n v.seen added ∙ ap (λ l. events_of seat_of n v.seen ++ l) (events_others seat_of n v.number added (λ d. omega (arith, d, zero_number, p)) all')
            ∙ append-nil (events_of seat_of n v.seen) ∙ is.to_give n p q);
        rest = refl;
      }

  pub passed_seat : (id : TableId) (m n : Me (Option B) (Standing E C)) (s : ShownSeat E C) (h added : List E) → Is m
      → shown id m.0 ≡ s → h ≡ s.seen ++ added → AllOf seat_of s.number added → n ≡ (on (passes h) m.0, []) → Is n
  passed_seat id m n s h added is e grown all f = subst Is (sym f) (passed_is id m.0 m.1 s h added is e grown all)

  -- a seat that gave its greatest number
  gave_is : (m : Standing E C) (c : List (ℕ × Option B)) → Is (m, c) → SeatedAnd m (λ v. 0 < v.room)
      → IsSeat seat_of number (room - 1) (on gives m, c)
  gave_is spent c is some_room = absurd is
  gave_is (seated v) c is some_room = record {
    number_is = is.number_is;
    room_is = ap (λ (n : ℕ). n - 1) is.room_is;
    told = is.told;
    own = is.own;
    first = (λ p. is.first some_room);
    to_give = (λ n p q. is.to_give n p (omega (arith, q)));
    rest = is.rest;
  }

  pub gave_seat : (id : TableId) (m n : Me (Option B) (Standing E C)) (s : ShownSeat E C) → Is m → shown id m.0 ≡ s
      → 0 < s.room → n ≡ (on gives m.0, m.1) → IsSeat seat_of number (room - 1) n
  gave_seat id m n s is e p f = subst (IsSeat seat_of number (room - 1)) (sym f) (gave_is m.0 m.1 is (shown_room id m.0 s e p))

  -- the seat that has the number
  given_is : (m : Standing E C) (c : List (ℕ × Option B)) → Is (m, c) → SeatedAnd m (λ v. 0 < v.room)
      → IsSeat {B = B} seat_of room 0 (on given_seat m, [])
  given_is spent c is some_room = absurd is
  given_is (seated v) c is some_room = record {
    number_is = is.room_is;
    room_is = refl;
    told = refl;
    own = is.to_give v.room some_room (omega arith);
    first = (λ p. absurd (omega (arith, p)));
    to_give = (λ n p q. absurd (omega (arith, p, q)));
    rest = refl;
  }

  pub given_seat_is : (id : TableId) (m n : Me (Option B) (Standing E C)) (s : ShownSeat E C) → Is m → shown id m.0 ≡ s
      → 0 < s.room → n ≡ (on given_seat m.0, []) → IsSeat seat_of room 0 n
  given_seat_is id m n s is e p f = subst (IsSeat seat_of room 0) (sym f) (given_is m.0 m.1 is (shown_room id m.0 s e p))

  -- a seat that took in another
  joined_is : (m o : Standing E C) (c : List (ℕ × Option B)) → Is (m, c) → SeatedAnd (both_seats m o) (Catches seat_of)
      → Is (on catches_up (both_seats m o), c)
  joined_is spent o c is b = absurd is
  joined_is (seated v) spent c is b = record { number_is = is.number_is; room_is = is.room_is; told = refl; own = b.own; first = is.first; to_give = b.to_give; rest = is.rest }
  joined_is (seated v) (seated w) c is b = record { number_is = is.number_is; room_is = is.room_is; told = refl; own = b.own; first = is.first; to_give = b.to_give; rest = is.rest }

  pub joined_seat : (m n : Me (Option B) (Standing E C)) (o : Standing E C) → Is m
      → SeatedAnd (both_seats m.0 o) (Catches seat_of) → n ≡ (on catches_up (both_seats m.0 o), m.1) → Is n
  joined_seat m n o is b e = subst Is (sym e) (joined_is m.0 o m.1 is b)

  pub may_close : (id : TableId) (m : Standing E C) (c : List (ℕ × Option B)) (s : ShownSeat E C) → Is (m, c)
      → shown id m ≡ s → s.holds ≡ false → s.stands ≡ s.made → SeatedAnd m MayClose
  may_close id spent c s is e no_turn all = absurd is
  may_close id (seated v) c s is e no_turn all = record {
    resting = rests_idle v.stage c is.rest (ap (λ z. z.holds) e ∙ no_turn);
    told = is.told;
    all = (let a : v.stands ≡ s.stands = ap (λ z. z.stands) e in let b : v.made ≡ s.made = ap (λ z. z.made) e in a ∙ all ∙ sym b);
  }

module _ {B E C : Type 0} (history : B → List E) (seat_of : E → ℕ) (base_of : B → C) where
  pub record ClosesAs (s : ShownSeat E C) (x : B) : Type 0 where
    pub whole : history x ≡ s.seen
    pub below : AllBelow seat_of s.seats (history x)
    pub based : Some (base_of x) ≡ s.base
    pub events : (n : ℕ) → events_of seat_of n (history x) ≡ events_under n (seats_known s)

  shown_closes : (id : TableId) (m : Standing E C) (s : ShownSeat E C) (x : B) → shown id m ≡ s
      → SeatedAnd m (Closes history seat_of base_of x) → ClosesAs s x
  shown_closes id spent s x e h = absurd h
  shown_closes id (seated v) s x e h = record {
    whole = h.whole ∙ ap (λ z. z.seen) e;
    below = subst (λ (n : ℕ). AllBelow seat_of n (history x)) (ap (λ z. z.seats) e) h.below;
    based = ap (λ b. Some b) h.based ∙ ap (λ z. z.base) e;
    events = (λ n. h.events n ∙ ap (λ z. events_under n (seats_known z)) e);
  }

  pub closed : (base : C) (seats number room : ℕ) (id : TableId) (place : ℕ) (m : Me (Option B) (Standing E C)) (s : ShownSeat E C) (words : List ℕ) (slots : List (Option B)) (r : Option B)
      → IsSeat seat_of number room m → shown id m.0 ≡ s → s.holds ≡ false → s.stands ≡ s.made
      → Final (Seen (Kept history seat_of base_of base seats) place m.0) words slots → get_elem? slots 0 ≡ some r
      → (x : B) × (r ≡ Some x) × ClosesAs s x
  closed base seats number room id place m s words slots r is e no_turn all final taken =
      let a = closes history seat_of base_of base seats place m.0 words slots (may_close seat_of number room id m.0 m.1 s is e no_turn all) final in
      (a.0, some-injective r (Some a.0) (sym taken ∙ a.1), shown_closes id m.0 s a.0 e a.2)
