-- The steps of one seat keep the rule: a ticket is drawn, a turn comes, a turn is passed, and a seat catches up.
use Rattle.std.proofs.Common.{◌≡◌, ◌≢◌, ℕ, ◌+◌, ◌%◌, ◌<◌, ◌≤◌, ◌⊎◌, List, [], ◌∷◌, ◌++◌, length, drop, set, get_or, Option, Some, None, sym, refl, ap, ◌∙◌, subst, inl, inr, ⊎_elim, All, arith, append-nil}
use Rattle.std.proofs.lemmas.List.Elements.{All-append}
use mathlib.Core.Logic.{dite}
use mathlib.Core.Option.{some, none, some-injective}
use native.Mathlib.Nat.{mod-add-mod}
use native.Mathlib.Decide.{ℕ_discrete}
use lib.ListN.{get_elem?}
use Rattle.atomic_table.specs.Table.{State, Me, Act, keeps, takes, gives, stepped, Allows}
use Rattle.atomic_table.proofs.Lists.{set_here, set_else, one_turn}
use Rattle.turn_table.specs.Events.{StartsWith, longer, events_of, AllOf, AllBelow, AreClear, IsAmong}
use Rattle.turn_table.specs.Views.{Stage, idle, waiting, serving, Known, Standing, spent, seated, tickets_in, ticket_in, HasTicket, SeatedAnd, on, tickets_of, stands_of, says_of, made_of, room_of, draws, serves, passes, catches_up}
use Rattle.turn_table.specs.Rule.{total, At, FitsStage, Apart, IsKnown, IsLatest, Suits, Fits, IsAway, IsAtHome, Kept}
use Rattle.turn_table.specs.Plays.{MayPass, drew, Served, looked, passed, caught_up}
use Rattle.turn_table.proofs.Lists.{starts_same, starts_more, longer_is, longer_whole, drop_front, events_more, events_own, events_others, events_between, events_none, ended_more, below_of}
use Rattle.turn_table.proofs.Totals.{total_set, total_below, at_within, seated-injective, each_set, pairs_set}

abbrev M : ℕ
M = 18446744073709551616

idle_or_serving : Stage → ℕ
idle_or_serving idle = 0
idle_or_serving (waiting t) = 1
idle_or_serving (serving t) = 2

pub idle-not-serving : (st : Stage) (t : ℕ) → st ≡ idle → st ≡ serving t → ⊥
unfolding idle_or_serving
idle-not-serving st t a b = let h = ap idle_or_serving (sym a ∙ b) in omega (arith, h)

waiting-not-serving : (st : Stage) (t u : ℕ) → st ≡ waiting t → st ≡ serving u → ⊥
unfolding idle_or_serving
waiting-not-serving st t u a b = let h = ap idle_or_serving (sym a ∙ b) in omega (arith, h)

some_or : {B : Type 0} → B → Option B → B
some_or d None = d
some_or d (Some x) = x

held_or : {B : Type 0} → B → List (ℕ × Option B) → B
held_or d [] = d
held_or d (x ∷ xs) = some_or d x.1

held_same : {B : Type 0} (c : List (ℕ × Option B)) (x y : B) → c ≡ (0, Some x) ∷ [] → c ≡ (0, Some y) ∷ [] → x ≡ y
unfolding some_or held_or
held_same c x y a b = ap (held_or x) (sym a ∙ b)

-- a turn is passed by a seat with another ticket
turn_over : {E : Type 0} (turns drawn : ℕ) (log log' seen : List E) (st : Stage) → FitsStage turns drawn log seen st
    → (HasTicket st turns → ⊥) → FitsStage (turns + 1) drawn log' seen st
turn_over turns drawn log log' seen idle f h = tt
turn_over turns drawn log log' seen (waiting t) f h = let a = f.0 in let ne : t ≢ turns = h in (omega arith, f.1)
turn_over turns drawn log log' seen (serving t) f h = absurd (h f.0)

stage_seen : {E : Type 0} (turns drawn : ℕ) (log seen seen' : List E) (st : Stage) → FitsStage turns drawn log seen st
    → (seen ≡ log → seen' ≡ log) → FitsStage turns drawn log seen' st
stage_seen turns drawn log seen seen' idle f h = tt
stage_seen turns drawn log seen seen' (waiting t) f h = f
stage_seen turns drawn log seen seen' (serving t) f h = (f.0, f.1, h f.2)

tickets_few : (st : Stage) → tickets_in st ≤ 1
tickets_few idle = omega arith
tickets_few (waiting t) = omega arith
tickets_few (serving t) = omega arith

module _ {E C : Type 0} where
  -- the view at an index is one
  pub same_view : (views : List (Standing E C)) (i : ℕ) (v w : Known E C) → At views i v → At views i w → v ≡ w
  same_view views i v w a b = seated-injective v w (some-injective (seated v) (seated w) (sym a ∙ b))

  -- where the seat stays as it is in all that others see, the latest seat stays too
  pub latest_set : (views : List (Standing E C)) (i : ℕ) (v w : Known E C) (log : List E) → i < length views → At views i v
      → ((v.seen ≡ log) ⊎ (v.told ≡ log) → (w.seen ≡ log) ⊎ (w.told ≡ log)) → IsLatest log views → IsLatest log (set views i (seated w))
  latest_set views i v w log lt at move (j, u, bt, is) = dite (ℕ_discrete j i)
      (λ e. (i, w, set_here views i (seated w) lt, move (subst (λ z. (z.seen ≡ log) ⊎ (z.told ≡ log)) (same_view views i u v (subst (λ n. At views n u) e bt) at) is)))
      (λ ne. (j, u, set_else views i j (seated w) ne ∙ bt, is))

  pub away_set : {B : Type 0} (views : List (Standing E C)) (i : ℕ) (v w : Known E C) (homes : List (mathlib.Core.Option.Option (Option B)))
      → i < length views → At views i v
      → ((t : ℕ) → v.stage ≡ serving t → w.stage ≡ serving t) → IsAway homes views → IsAway homes (set views i (seated w))
  away_set views i v w homes lt at move (h, (j, u, t, bt, is)) = dite (ℕ_discrete j i)
      (λ e. (h, (i, w, t, set_here views i (seated w) lt, move t (subst (λ z. z.stage ≡ serving t) (same_view views i u v (subst (λ n. At views n u) e bt) at) is))))
      (λ ne. (h, (j, u, t, set_else views i j (seated w) ne ∙ bt, is)))

  -- a number that is known stays known where a seat keeps its number and those of the seats that it took in
  pub known_set : (views : List (Standing E C)) (i : ℕ) (v w : Known E C) (n : ℕ) → i < length views → At views i v
      → w.number ≡ v.number → w.ended ≡ v.ended
      → IsKnown views n → IsKnown (set views i (seated w)) n
  known_set views i v w n lt at number ended (j, u, bt, is) = dite (ℕ_discrete j i)
      (λ e. let same : u ≡ v = same_view views i u v (subst (λ n. At views n u) e bt) at in (
        i,
        w,
        set_here views i (seated w) lt,
        ⊎_elim (λ x. inl (number ∙ ap (λ z. z.number) (sym same) ∙ x))
            (λ x. inr (subst (IsAmong n) (ap (λ z. z.ended) same ∙ sym ended) x)) is,
      ))
      (λ ne. (j, u, set_else views i j (seated w) ne ∙ bt, is))

module _ {B E C : Type 0} (history : B → List E) (seat_of : E → ℕ) (base_of : B → C) (base : C) (seats : ℕ) where
  abbrev K : State (Option B) (Standing E C) → Type 0
  K = Kept history seat_of base_of base seats

  abbrev F : ℕ → ℕ → List E → Known E C → Type 0
  F = Fits seat_of base seats

  -- what stays of a seat whose step only changes its stage and its lists
  pub record IsSameSeat (v w : Known E C) : Type 0 where
    pub number : w.number ≡ v.number
    pub stands : w.stands ≡ v.stands
    pub says : w.says ≡ v.says
    pub made : w.made ≡ v.made
    pub room : w.room ≡ v.room
    pub ended : w.ended ≡ v.ended

  pub record Move (s : State (Option B) (Standing E C)) (k : K s) (i : ℕ) (v w : Known E C) (words : List ℕ) (homes : List (mathlib.Core.Option.Option (Option B))) : Type 0 where
    pub drawn : ℕ
    pub turns : ℕ
    pub log : List E
    pub same : IsSameSeat v w
    pub words_are : words ≡ (drawn % M) ∷ (turns % M) ∷ []
    pub tickets : tickets_in w.stage + turns + k.drawn ≡ tickets_in v.stage + k.turns + drawn
    pub here : F turns drawn log w
    pub others : (u : Known E C) → F k.turns k.drawn k.log u → Apart v u → Apart u v → F turns drawn log u
    pub apart : (u : Known E C) → F k.turns k.drawn k.log u → (t : ℕ) → HasTicket w.stage t → HasTicket u.stage t
        → (HasTicket v.stage t → ⊥) → ⊥
    pub below : AllBelow seat_of seats log
    pub known : All (λ e. IsKnown (set s.views i (seated w)) (seat_of e)) log
    pub latest : IsLatest log (set s.views i (seated w))
    pub slot : IsAtHome history seat_of base_of base seats log homes ⊎ IsAway homes (set s.views i (seated w))

  total_same : (f : Standing E C → ℕ) (views : List (Standing E C)) (i : ℕ) (v w : Known E C) → At views i v
      → f (seated w) ≡ f (seated v) → total f (set views i (seated w)) ≡ total f views
  total_same f views i v w at e = let h = total_set f views i (seated v) (seated w) at in omega arith

  pub moved : (s : State (Option B) (Standing E C)) (k : K s) (i : ℕ) (v w : Known E C) (words : List ℕ) (homes : List (mathlib.Core.Option.Option (Option B)))
      → At s.views i v → Move s k i v w words homes → K (record { words = words; homes = homes; views = set s.views i (seated w) })
  moved s k i v w words homes at m =
      let fv = k.fits i v at in
      let tick = total_set tickets_of s.views i (seated v) (seated w) at in
      let st = total_same stands_of s.views i v w at m.same.stands in
      let sa = total_same says_of s.views i v w at m.same.says in
      let ma = total_same made_of s.views i v w at m.same.made in
      let ro = total_same room_of s.views i v w at m.same.room in
      record {
        drawn = m.drawn;
        turns = m.turns;
        log = m.log;
        words = m.words_are;
        few = k.few;
        tickets = (let a = m.tickets in let b = k.tickets in omega arith);
        stand = st ∙ k.stand ∙ sym ma;
        one_says = sa ∙ k.one_says;
        made = (let a = k.made in omega arith);
        fits = each_set s.views i w (F m.turns m.drawn m.log) m.here
            (λ j u ne bt. m.others u (k.fits j u bt) (k.apart i j v u (λ e. ne (sym e)) at bt) (k.apart j i u v ne bt at));
        apart = pairs_set s.views i w Apart
            (λ j u ne bt.
            let a = k.apart i j v u (λ e. ne (sym e)) at bt in
            let b = k.apart j i u v ne bt at in
            let fu = k.fits j u bt in (
              record {
                numbers = (λ e. a.numbers (sym m.same.number ∙ e));
                tickets = (λ t x y. m.apart u fu t x y (λ z. a.tickets t z y));
                not_to_give = (λ x y. a.not_to_give (subst (λ (n : ℕ). 0 < n) m.same.number x) (subst (λ (n : ℕ). n ≤ u.room) m.same.number y));
                clear = subst (AreClear u.number u.room) (sym m.same.ended) a.clear;
              },
              record {
                numbers = (λ e. b.numbers (e ∙ m.same.number));
                tickets = (λ t y x. m.apart u fu t x y (λ z. a.tickets t z y));
                not_to_give = (λ x y. b.not_to_give x (subst (λ (n : ℕ). u.number ≤ n) m.same.room y));
                clear = subst (λ (n : ℕ). AreClear n w.room u.ended) (sym m.same.number)
                    (subst (λ (n : ℕ). AreClear v.number n u.ended) (sym m.same.room) b.clear);
              },
            ))
            k.apart;
        below = m.below;
        known = m.known;
        latest = m.latest;
        slot = m.slot;
      }

  -- a ticket that fits lies between the turns and the draws
  ticket_fits : (turns drawn : ℕ) (log seen : List E) (st : Stage) (t : ℕ) → FitsStage turns drawn log seen st
      → HasTicket st t → (turns ≤ t) × (t < drawn)
  ticket_fits turns drawn log seen idle t f h = absurd h
  ticket_fits turns drawn log seen (waiting u) t f h = let a = f.0 in let b = f.1 in (omega arith, omega arith)
  ticket_fits turns drawn log seen (serving u) t f h = let a = f.0 in let b = f.1 in (omega arith, omega arith)

  drawn_more : (turns drawn : ℕ) (log seen : List E) (st : Stage) → FitsStage turns drawn log seen st
      → FitsStage turns (drawn + 1) log seen st
  drawn_more turns drawn log seen idle f = tt
  drawn_more turns drawn log seen (waiting u) f = let a = f.0 in let b = f.1 in (a, omega arith)
  drawn_more turns drawn log seen (serving u) f = let b = f.1 in (f.0, omega arith, f.2)

  suits_stage : (log : List E) (v : Known E C) (st : Stage) → Suits seat_of base seats log v
      → Suits seat_of base seats log (record v { stage = st })
  suits_stage log v st f = assumption f

  -- fewer tickets are held than a word counts
  few_held : (s : State (Option B) (Standing E C)) (k : K s) → k.drawn < k.turns + M
  few_held s k =
      let each : (i : ℕ) (x : Standing E C) → get_elem? s.views i ≡ some x → tickets_of x ≤ stands_of x = λ i x at. held i x at in
      let h = total_below tickets_of stands_of s.views each in
      let a = k.stand in let b = k.made in let d = k.few in let e = k.tickets in omega arith
    where
      held : (i : ℕ) (x : Standing E C) → get_elem? s.views i ≡ some x → tickets_of x ≤ stands_of x
      held i spent at = omega arith
      held i (seated v) at = let p = (k.fits i v at).suits.stands in let q = tickets_few v.stage in omega arith

  same_seat : (v : Known E C) → IsSameSeat v v
  same_seat v = record { number = refl; stands = refl; says = refl; made = refl; room = refl; ended = refl }

  drawing : (slots id : ℕ) (v : Known E C) (c : List (ℕ × Option B)) → v.stage ≡ idle
      → Allows K slots id (seated v, c) 0 (λ n. (n + 1) % M) (drew (seated v, c))
  drawing slots id v c rest s k len at fits =
      let w = draws k.drawn v in
      let lt = at_within s.views id (seated v) at in
      let none_held : tickets_in v.stage ≡ 0 = ap tickets_in rest in
      let sums = k.tickets in (
        seated w,
        keeps,
        tt,
        moved s k id v w (set s.words 0 ((get_or s.words 0 0 + 1) % M)) s.homes at (record {
          drawn = k.drawn + 1;
          turns = k.turns;
          log = k.log;
          same = record { number = refl; stands = refl; says = refl; made = refl; room = refl; ended = refl };
          words_are = ap (λ l. set l 0 ((get_or l 0 0 + 1) % M)) k.words ∙ ap (λ n. n ∷ (k.turns % M) ∷ []) (mod-add-mod k.drawn M 1);
          tickets = omega (arith, none_held);
          here = record { suits = suits_stage k.log v (waiting k.drawn) (k.fits id v at).suits; stage = (omega (arith, sums), omega arith) };
          others = (λ u fu a b. record { suits = fu.suits; stage = drawn_more k.turns k.drawn k.log u.seen u.stage fu.stage });
          apart = (λ u fu t x y z. let b = ticket_fits k.turns k.drawn k.log u.seen u.stage t fu.stage y in let e : k.drawn ≡ t = x in let lt' = b.1 in absurd (omega (arith, e, lt')));
          below = k.below;
          known = (λ n d le. known_set s.views id v w (seat_of (get_or k.log n d)) lt at refl refl (k.known n d le));
          latest = latest_set s.views id v w k.log lt at (λ x. x) k.latest;
          slot = ⊎_elim (λ x. inl x) (λ x. inr (away_set s.views id v w s.homes lt at (λ t e. absurd (idle-not-serving v.stage t rest e)) x)) k.slot;
        }),
        (k.drawn, ap (λ l. get_or l 0 0) k.words, refl),
      )

  pub draws_ticket : (slots id : ℕ) (m : Standing E C) (c : List (ℕ × Option B)) → SeatedAnd m (λ v. v.stage ≡ idle)
      → Allows K slots id (m, c) 0 (λ n. (n + 1) % M) (drew (m, c))
  draws_ticket slots id spent c h = absurd h
  draws_ticket slots id (seated v) c h = drawing slots id v c h

  -- a turn that isn't the seat's leaves all as it was
  missing : (slots id : ℕ) (v : Known E C) (c : List (ℕ × Option B)) (s : State (Option B) (Standing E C)) → K s
      → At s.views id v → K (stepped s 1 (get_or s.words 1 0) id c (seated v) keeps)
  missing slots id v c s k at =
      let lt = at_within s.views id (seated v) at in
      moved s k id v v (set s.words 1 (get_or s.words 1 0)) s.homes at (record {
        drawn = k.drawn;
        turns = k.turns;
        log = k.log;
        same = same_seat v;
        words_are = ap (λ l. set l 1 (get_or l 1 0)) k.words;
        tickets = refl;
        here = k.fits id v at;
        others = (λ u fu a b. fu);
        apart = (λ u fu t x y z. absurd (z x));
        below = k.below;
        known = (λ n d le. known_set s.views id v v (seat_of (get_or k.log n d)) lt at refl refl (k.known n d le));
        latest = latest_set s.views id v v k.log lt at (λ x. x) k.latest;
        slot = ⊎_elim (λ x. inl x) (λ x. inr (away_set s.views id v v s.homes lt at (λ t e. e) x)) k.slot;
      })

  -- the turn of the ticket t came, and the value is at home
  taking : (slots id : ℕ) (v : Known E C) (c : List (ℕ × Option B)) (t : ℕ) → v.stage ≡ waiting t
      → (s : State (Option B) (Standing E C)) (k : K s) → At s.views id v → k.turns ≡ t
      → IsAtHome history seat_of base_of base seats k.log s.homes
      → (w : Standing E C) × (a : Act (Option B)) × Rattle.atomic_table.specs.Table.Valid s.homes c a × K
      (stepped s 1 (get_or s.words 1 0) id c w a) × Served history seat_of base_of (seated v, c) (w, Rattle.atomic_table.specs.Table.carried_after c a)
  taking slots id v c t waits s k at now (x, home, hx, bx) =
      let w = serves (ticket_in v.stage) (history x) v in
      let lt = at_within s.views id (seated v) at in
      let fv = k.fits id v at in
      let sv = fv.suits in
      let tk : ticket_in v.stage ≡ t = ap ticket_in waits in
      let one_held : tickets_in v.stage ≡ 1 = ap tickets_in waits in
      let span : (k.turns ≤ t) × (t < k.drawn) = subst (FitsStage k.turns k.drawn k.log v.seen) waits fv.stage in
      let below_drawn = span.1 in (
        seated w,
        takes 0 (Some x),
        ap (λ h. get_elem? h 0) home,
        moved s k id v w (set s.words 1 (get_or s.words 1 0)) (set s.homes 0 none) at (record {
          drawn = k.drawn;
          turns = k.turns;
          log = k.log;
          same = record { number = refl; stands = refl; says = refl; made = refl; room = refl; ended = refl };
          words_are = ap (λ l. set l 1 (get_or l 1 0)) k.words;
          tickets = omega (arith, one_held);
          here = record {
            suits = (let seen = starts_same k.log (history x) (sym hx) in let own_seen = ap (events_of seat_of v.number) hx ∙ sv.own in assumption (seen, own_seen, sv));
            stage = (tk ∙ sym now, omega (arith, tk, below_drawn), hx);
          };
          others = (λ u fu a b. fu);
          apart = (λ u fu n y z q. q (subst (λ st. HasTicket st n) (sym waits) (sym tk ∙ y)));
          below = k.below;
          known = (λ n d le. known_set s.views id v w (seat_of (get_or k.log n d)) lt at refl refl (k.known n d le));
          latest = (id, w, set_here s.views id (seated w) lt, inl hx);
          slot = inr (ap (λ h. set h 0 none) home, (id, w, ticket_in v.stage, set_here s.views id (seated w) lt, refl));
        }),
        (x, refl, record { seen = subst (λ l. StartsWith l v.seen) (sym hx) sv.seen; own = ap (events_of seat_of v.number) hx ∙ sv.own; base_is = bx ∙ sym sv.base_is; to_give = (λ n p q. ap (events_of seat_of n) hx ∙ sv.to_give n p q) }),
      )

  -- another seat can't be served at this turn
  not_away : (id : ℕ) (v : Known E C) (t : ℕ) → v.stage ≡ waiting t → (s : State (Option B) (Standing E C)) (k : K s)
      → At s.views id v → k.turns ≡ t → IsAway s.homes s.views → ⊥
  not_away id v t waits s k at now (home, (j, u, n, bt, served)) =
      let fu : (n ≡ k.turns) × (n < k.drawn) × (u.seen ≡ k.log) = subst (FitsStage k.turns k.drawn k.log u.seen) served (k.fits j u bt).stage in
      dite (ℕ_discrete j id)
      (λ e. let same : u ≡ v = same_view s.views id u v (subst (λ m. At s.views m u) e bt) at in waiting-not-serving v.stage t n waits (sym (ap (λ z. z.stage) same) ∙ served))
      (λ ne. (k.apart id j v u (λ e. ne (sym e)) at bt).tickets t (subst (λ st. HasTicket st t) (sym waits) refl) (subst (λ st. HasTicket st t) (sym served) (fu.0 ∙ now)))

  looking : (slots id : ℕ) (v : Known E C) (c : List (ℕ × Option B)) (t : ℕ) → v.stage ≡ waiting t
      → Allows K slots id (seated v, c) 1 (λ n. n) (looked history seat_of base_of (seated v, c))
  looking slots id v c t waits s k len at fits =
      let n : ℕ = get_or s.words 1 0 in
      let tk : ticket_in v.stage ≡ t = ap ticket_in waits in
      let span : (k.turns ≤ t) × (t < k.drawn) = subst (FitsStage k.turns k.drawn k.log v.seen) waits (k.fits id v at).stage in
      dite (ℕ_discrete n (ticket_in v.stage % M))
      (λ hit.
      let few = few_held s k in
      let late = span.1 in
      let same : k.turns % M ≡ t % M = sym (ap (λ l. get_or l 1 0) k.words) ∙ hit ∙ ap (λ m. m % M) tk in
      let now : k.turns ≡ t = one_turn k.turns t M span.0 (omega (arith, few, late)) same in
      let a = taking slots id v c t waits s k at now (⊎_elim (λ x. x) (λ x. absurd (not_away id v t waits s k at now x)) k.slot) in
      (a.0, a.1, a.2, a.3, ((λ _. a.4), (λ miss. absurd (miss hit)))))
      (λ miss. (seated v, keeps, tt, missing slots id v c s k at, ((λ hit. absurd (miss hit)), (λ _. refl))))

  pub looks : (slots id : ℕ) (m : Standing E C) (c : List (ℕ × Option B)) (t : ℕ)
      → SeatedAnd m (λ v. v.stage ≡ waiting t)
      → Allows K slots id (m, c) 1 (λ n. n) (looked history seat_of base_of (m, c))
  looks slots id spent c t h = absurd h
  looks slots id (seated v) c t h = looking slots id v c t h

  suits_more : (log added : List E) (n : ℕ) (u : Known E C) → Suits seat_of base seats log u → AllOf seat_of n added → u.number ≢ n
      → ((m : ℕ) → 0 < m → m ≤ u.room → m ≢ n) → (room : ℕ) → AreClear n room u.ended → Suits seat_of base seats (log ++ added) u
  suits_more log added n u f all ne others room clear =
      let none_more : (m : ℕ) → m ≢ n → events_of seat_of m (log ++ added) ≡ events_of seat_of m log = λ m ne.
      events_more seat_of m log added ∙ ap (λ l. events_of seat_of m log ++ l) (events_others seat_of m n added ne all) ∙ append-nil (events_of seat_of m log) in
      let seen = starts_more log u.seen added f.seen in
      let told = starts_more log u.told added f.told in
      let own = none_more u.number ne ∙ f.own in
      let to_give : (m : ℕ) → 0 < m → m ≤ u.room → events_of seat_of m (log ++ added) ≡ [] = λ m p q. none_more m (others m p q) ∙ f.to_give m p q in
      let ended = ended_more seat_of log added n room u.ended f.ended clear all in
      assumption (seen, told, own, to_give, ended, f)

  -- one slot, whatever is in it
  one_home : (s : State (Option B) (Standing E C)) → K s → (h : mathlib.Core.Option.Option (Option B)) × (s.homes ≡ h ∷ [])
  one_home s k = ⊎_elim (λ x. (some (Some x.0), x.1)) (λ x. (none, x.0)) k.slot

  passing : (slots id : ℕ) (v : Known E C) (c : List (ℕ × Option B)) (t : ℕ) (y : B) (added : List E)
      → v.stage ≡ serving t → c ≡ (0, Some y) ∷ []
      → history y ≡ v.seen ++ added → AllOf seat_of v.number added → base_of y ≡ v.base
      → Allows K slots id (seated v, c) 1 (λ n. (n + 1) % M) (λ _ n. passed history (seated v, c) n)
  passing slots id v c t y added serves_now holds_it grown all based s k len at fits =
      let w = passes (history y) v in
      let lt = at_within s.views id (seated v) at in
      let fv = k.fits id v at in
      let sv = fv.suits in
      let log' : List E = k.log ++ added in
      let one_held : tickets_in v.stage ≡ 1 = ap tickets_in serves_now in
      let served : (t ≡ k.turns) × (t < k.drawn) × (v.seen ≡ k.log) = subst (FitsStage k.turns k.drawn k.log v.seen) serves_now fv.stage in
      let whole : history y ≡ log' = grown ∙ ap (λ l. l ++ added) served.2 in
      let has : HasTicket v.stage k.turns = subst (λ st. HasTicket st k.turns) (sym serves_now) served.0 in
      let home = one_home s k in
      let homes' = Rattle.atomic_table.specs.Table.put_back s.homes c in
      let homes_is : homes' ≡ some (Some y) ∷ [] = ap (Rattle.atomic_table.specs.Table.put_back s.homes) holds_it ∙ ap (λ h. set h 0 (some (Some y))) home.1 in
      let own : events_of seat_of v.number log' ≡ v.mine ++ drop (length v.seen) (history y) =
      events_more seat_of v.number k.log added ∙ ap (λ l. l ++ events_of seat_of v.number added) sv.own
      ∙ ap (λ l. v.mine ++ l) (events_own seat_of v.number added all ∙ sym (ap (drop (length v.seen)) grown ∙ drop_front v.seen added)) in (
        seated w,
        gives,
        tt,
        moved s k id v w (set s.words 1 ((get_or s.words 1 0 + 1) % M)) homes' at (record {
          drawn = k.drawn;
          turns = k.turns + 1;
          log = log';
          same = record { number = refl; stands = refl; says = refl; made = refl; room = refl; ended = refl };
          words_are = ap (λ l. set l 1 ((get_or l 1 0 + 1) % M)) k.words ∙ ap (λ n. (k.drawn % M) ∷ n ∷ []) (mod-add-mod k.turns M 1);
          tickets = omega (arith, one_held);
          here = record {
            suits = (let seen = starts_same log' (history y) (sym whole) in
                let told = starts_more k.log v.told added sv.told in
                let own_seen = ap (events_of seat_of v.number) whole ∙ own in
                let to_give : (m : ℕ) → 0 < m → m ≤ v.room → events_of seat_of m log' ≡ [] = λ m p q.
                let zero_number = (sv.first (omega (arith, p, q))).0 in
                events_more seat_of m k.log added ∙ ap (λ l. events_of seat_of m k.log ++ l) (events_others seat_of m v.number added (λ e. omega (arith, e, zero_number, p)) all)
                ∙ append-nil (events_of seat_of m k.log) ∙ sv.to_give m p q in
                let ended = ended_more seat_of k.log added v.number v.room v.ended sv.ended sv.clear all in
                assumption (seen, told, own, own_seen, to_give, ended, sv));
            stage = tt;
          };
          others = (λ u fu a b. record {
            suits = suits_more k.log added v.number u fu.suits all (λ e. a.numbers (sym e))
                (λ m p q e. a.not_to_give (subst (λ (n : ℕ). 0 < n) e p) (subst (λ (n : ℕ). n ≤ u.room) e q)) v.room b.clear;
            stage = turn_over k.turns k.drawn k.log log' u.seen u.stage fu.stage (λ h. a.tickets k.turns has h);
          });
          apart = (λ u fu n x y' z. absurd x);
          below = All-append (λ e. seat_of e < seats) k.log added k.below (below_of seat_of v.number seats added sv.below all);
          known = All-append (λ e. IsKnown (set s.views id (seated w)) (seat_of e)) k.log added
              (λ n d le. known_set s.views id v w (seat_of (get_or k.log n d)) lt at refl refl (k.known n d le))
              (λ n d le. (id, w, set_here s.views id (seated w) lt, inl (sym (all n d le))));
          latest = (id, w, set_here s.views id (seated w) lt, inl whole);
          slot = inl (y, homes_is, whole, based ∙ sv.base_is);
        }),
        (λ y' e.
            let same = held_same c y y' holds_it e in
            let at_y : Me (Option B) (Standing E C) = (seated w, Rattle.atomic_table.specs.Table.rest c) in
            let after : B → Me (Option B) (Standing E C) = λ b. (on (passes (history b)) (seated v), []) in
            let here : at_y ≡ after y = ap (λ r. (seated w, Rattle.atomic_table.specs.Table.rest r)) holds_it in
            here ∙ ap after same),
      )

  pub passes_turn : (slots id : ℕ) (m : Standing E C) (c : List (ℕ × Option B)) (y : B) → c ≡ (0, Some y) ∷ []
      → SeatedAnd m (MayPass history seat_of base_of y)
      → Allows K slots id (m, c) 1 (λ n. (n + 1) % M) (λ _ n. passed history (m, c) n)
  passes_turn slots id spent c y e h = absurd h
  passes_turn slots id (seated v) c y e h = passing slots id v c h.served.0 y h.grown.0 h.served.1 e h.grown.1 h.grown.2 h.based

  catching : (slots id : ℕ) (v : Known E C) (c : List (ℕ × Option B))
      → Allows K slots id (seated v, c) 1 (λ n. n) (λ _ n. caught_up seat_of (seated v, c) n)
  catching slots id v c s k len at fits =
      let w = catches_up v in
      let lt = at_within s.views id (seated v) at in
      let fv = k.fits id v at in
      let sv = fv.suits in
      let l = longer_is k.log v.seen v.told sv.seen sv.told in
      let own = events_between seat_of v.number k.log (longer v.seen v.told) v.seen v.mine l.whole l.first sv.own_seen sv.own in (
        seated w,
        keeps,
        tt,
        moved s k id v w (set s.words 1 (get_or s.words 1 0)) s.homes at (record {
          drawn = k.drawn;
          turns = k.turns;
          log = k.log;
          same = record { number = refl; stands = refl; says = refl; made = refl; room = refl; ended = refl };
          words_are = ap (λ z. set z 1 (get_or z 1 0)) k.words;
          tickets = refl;
          here = record {
            suits = (let seen = l.whole in let told : StartsWith k.log [] = (k.log, refl) in assumption (seen, told, own, sv));
            stage = stage_seen k.turns k.drawn k.log v.seen (longer v.seen v.told) v.stage fv.stage (λ e. longer_whole k.log v.seen v.told sv.seen sv.told (inl e));
          };
          others = (λ u fu a b. fu);
          apart = (λ u fu t x y z. absurd (z x));
          below = k.below;
          known = (λ n d le. known_set s.views id v w (seat_of (get_or k.log n d)) lt at refl refl (k.known n d le));
          latest = latest_set s.views id v w k.log lt at (λ e. inl (longer_whole k.log v.seen v.told sv.seen sv.told e)) k.latest;
          slot = ⊎_elim (λ x. inl x) (λ x. inr (away_set s.views id v w s.homes lt at (λ t e. e) x)) k.slot;
        }),
        (refl, record { first = l.first; second = l.second; own = own; to_give = (λ n p q. events_none seat_of n k.log (longer v.seen v.told) l.whole (sv.to_give n p q)) }),
      )

  pub catches : (slots id : ℕ) (m : Standing E C) (c : List (ℕ × Option B)) → SeatedAnd m (λ _. Unit {0})
      → Allows K slots id (m, c) 1 (λ n. n) (λ _ n. caught_up seat_of (m, c) n)
  catches slots id spent c h = absurd h
  catches slots id (seated v) c h = catching slots id v c
