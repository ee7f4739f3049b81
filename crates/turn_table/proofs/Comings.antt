-- A table opens, seats come and go, and the table is closed.
use Rattle.std.proofs.Common.{◌≡◌, ◌≢◌, ℕ, zero, suc, ◌-◌, ◌<◌, ◌≤◌, ◌⊎◌, List, [], ◌∷◌, ◌++◌, length, set, get_or, Option, Some, sym, refl, ap, ◌∙◌, subst, inl, inr, ⊎_elim, arith}
use mathlib.Core.Logic.{dite}
use mathlib.Core.Option.{some, none, some-injective}
use native.Mathlib.Decide.{ℕ_discrete}
use lib.ListN.{get_elem?}
use Rattle.atomic_table.specs.Table.{State, opening, Splits, Joins, Final, Seen}
use Rattle.atomic_table.proofs.Lists.{set_here, set_else, at_longer}
use Rattle.turn_table.specs.Events.{AllBelow, AreClear, IsAmong, events_of, events_under}
use Rattle.turn_table.specs.Views.{idle, Known, Standing, spent, seated, SeatedAnd, on, tickets_in, tickets_of, stands_of, says_of, made_of, room_of, opening_seat, gives, given_seat, takes_in, both_seats}
use Rattle.turn_table.specs.Rule.{total, At, Apart, Fits, IsAtHome, Kept}
use Rattle.turn_table.proofs.Lists.{starts_whole, events_none, all_under, among_left, among_right, clear_append, clear_given, clear_less, have_append}
use Rattle.turn_table.proofs.Totals.{total_set, total_more, total_one, total_two, total_only, at_within, at_more, seated-injective, each_set, pairs_in, pairs_set, each_spent}
use Rattle.turn_table.proofs.Moves.{same_view, known_set, latest_set, away_set, idle-not-serving}

-- what a seat owes that closes the table
pub record MayClose {E C : Type 0} (v : Known E C) : Type 0 where
  pub resting : v.stage ≡ idle
  pub told : v.told ≡ []
  pub all : v.stands ≡ v.made

-- what the value has that a closed table gives back
pub record Closes {B E C : Type 0} (history : B → List E) (seat_of : E → ℕ) (base_of : B → C) (x : B) (v : Known E C) : Type 0 where
  pub whole : history x ≡ v.seen
  pub below : AllBelow seat_of v.seats (history x)
  pub based : base_of x ≡ v.base
  pub events : (n : ℕ) → events_of seat_of n (history x) ≡ events_under n ((v.number, v.mine) ∷ v.ended)

module _ {B E C : Type 0} (history : B → List E) (seat_of : E → ℕ) (base_of : B → C) (base : C) (seats : ℕ) where
  abbrev K : State (Option B) (Standing E C) → Type 0
  K = Kept history seat_of base_of base seats

  abbrev F : ℕ → ℕ → List E → Known E C → Type 0
  F = Fits seat_of base seats

  only_first : (v u : Known E C) (j : ℕ) → At (seated v ∷ []) j u → (j ≡ 0) × (v ≡ u)
  only_first v u zero at = (refl, seated-injective v u (some-injective (seated v) (seated u) at))
  only_first v u (suc j) at = absurd (mathlib.Core.Option.some-ne-none (seated u) (sym at))

  pub opens : (x : B) → history x ≡ [] → base_of x ≡ base → 0 < seats → seats < 4294967296
      → K (opening (0 ∷ 0 ∷ []) (Some x ∷ []) (seated (opening_seat base seats)))
  opens x hx bx some_seat few =
      let first = opening_seat {E = E} base seats in
      record {
        drawn = 0;
        turns = 0;
        log = [];
        words = refl;
        few = few;
        tickets = refl;
        stand = refl;
        one_says = refl;
        made = omega arith;
        fits = (λ j u at. subst (F 0 0 []) (only_first first u j at).1 (record {
          suits = record {
            seen = ([], refl);
            told = ([], refl);
            own = refl;
            own_seen = refl;
            below = some_seat;
            base_is = refl;
            seats_is = refl;
            stands = omega arith;
            unsaid = (λ e. absurd (omega (arith, e)));
            first = (λ _. (refl, omega arith));
            to_give = (λ n p q. refl);
            ended = tt;
            clear = tt;
          };
          stage = tt;
        }));
        apart = (λ i j v w ne at bt. absurd (ne ((only_first first v i at).0 ∙ sym (only_first first w j bt).0)));
        below = (λ k d le. absurd (omega (arith, le)));
        known = (λ k d le. absurd (omega (arith, le)));
        latest = (0, first, refl, inl refl);
        slot = inl (x, refl, hx, bx);
      }

  -- a seat gives its greatest number to a new one
  splitting : (id : ℕ) (v : Known E C) → 0 < v.room → Splits K id (seated v) (seated (gives v)) (seated (given_seat v))
  splitting id v has_room s k at =
      let w = gives v in
      let n = given_seat v in
      let lt = at_within s.views id (seated v) at in
      let fv = k.fits id v at in
      let sv = fv.suits in
      let first = sv.first has_room in
      let zero_number = first.0 in
      let says_it = first.1 in
      let changed : List (Standing E C) = set s.views id (seated w) in
      let now : List (Standing E C) = changed ++ seated n ∷ [] in
      let t₁ = total_set tickets_of s.views id (seated v) (seated w) at in
      let t₂ = total_more tickets_of changed (seated n) in
      let t₃ = k.tickets in
      let s₁ = total_set stands_of s.views id (seated v) (seated w) at in
      let s₂ = total_more stands_of changed (seated n) in
      let s₃ = k.stand in
      let y₁ = total_set says_of s.views id (seated v) (seated w) at in
      let y₂ = total_more says_of changed (seated n) in
      let y₃ = k.one_says in
      let m₁ = total_set made_of s.views id (seated v) (seated w) at in
      let m₂ = total_more made_of changed (seated n) in
      let r₁ = total_set room_of s.views id (seated v) (seated w) at in
      let r₂ = total_more room_of changed (seated n) in
      let r₃ = k.made in
      let stands_one = total_one stands_of s.views id (seated v) at in
      let room_one = total_one room_of s.views id (seated v) at in
      let stands_v = sv.stands in
      let small : v.room < seats = omega (arith, s₃, r₃, stands_one, room_one, stands_v) in
      let left : F k.turns k.drawn k.log w = record {
        suits = (let unsaid : w.says ≡ 0 → w.made ≡ 0 = λ e. absurd (omega (arith, e, says_it)) in
            let still_first : 0 < w.room → (w.number ≡ 0) × (0 < w.says) = λ _. first in
            let to_give : (m : ℕ) → 0 < m → m ≤ w.room → events_of seat_of m k.log ≡ [] = λ m p q. sv.to_give m p (omega (arith, q)) in
            let clear = clear_less v.number v.room (v.room - 1) v.ended (omega arith) sv.clear in
            assumption (unsaid, still_first, to_give, clear, sv));
        stage = fv.stage;
      } in
      let right : F k.turns k.drawn k.log n = record {
        suits = record {
          seen = sv.seen;
          told = (k.log, refl);
          own = sv.to_give v.room has_room (omega arith);
          own_seen = events_none seat_of v.room k.log v.seen sv.seen (sv.to_give v.room has_room (omega arith));
          below = small;
          base_is = sv.base_is;
          seats_is = sv.seats_is;
          stands = omega arith;
          unsaid = (λ _. refl);
          first = (λ p. absurd (omega (arith, p)));
          to_give = (λ m p q. absurd (omega (arith, p, q)));
          ended = tt;
          clear = tt;
        };
        stage = tt;
      } in
      let fits_left : (j : ℕ) (u : Known E C) → At changed j u → F k.turns k.drawn k.log u = each_set s.views id w (F k.turns k.drawn k.log) left (λ j u ne bt. k.fits j u bt) in
      -- the left seat beside another, both ways
      let beside : (j : ℕ) (u : Known E C) → j ≢ id → At s.views j u → Apart w u × Apart u w = λ j u ne bt.
      let a = k.apart id j v u (λ e. ne (sym e)) at bt in
      let b = k.apart j id u v ne bt at in (
        record { numbers = a.numbers; tickets = a.tickets; not_to_give = a.not_to_give; clear = a.clear },
        record {
          numbers = b.numbers;
          tickets = b.tickets;
          not_to_give = (λ p q. b.not_to_give p (omega (arith, q)));
          clear = clear_less v.number v.room (v.room - 1) u.ended (omega arith) b.clear;
        },
      ) in
      -- the new seat beside an old one, both ways
      let new_beside : (u : Known E C) → F k.turns k.drawn k.log u → (v.room ≢ u.number) → (0 < u.room → ⊥) ⊎ (u.room < v.room)
      → AreClear v.number v.room u.ended → Apart n u × Apart u n = λ u fu ne no_room clear. (
        record {
          numbers = ne;
          tickets = (λ t x y. absurd x);
          not_to_give =
              (λ p q. ⊎_elim (λ z. z (omega (arith, p, q))) (λ z. omega (arith, q, z)) no_room);
          clear = tt;
        },
        record {
          numbers = (λ e. ne (sym e));
          tickets = (λ t x y. absurd y);
          not_to_give = (λ p q. omega (arith, p, q));
          clear = clear_given v.number v.room u.ended has_room clear;
        },
      ) in
      let new_and : (j : ℕ) (u : Known E C) → At changed j u → Apart n u × Apart u n = each_set s.views id w (λ u. Apart n u × Apart u n)
      (new_beside w left (λ e. omega (arith, e, zero_number, has_room)) (inr (omega (arith, has_room))) sv.clear)
      (λ j u ne bt.
      let b = k.apart j id u v ne bt at in
      let fu = k.fits j u bt in
      new_beside u fu
      (λ e. b.not_to_give (subst (λ (m : ℕ). 0 < m) e has_room) (omega (arith, e)))
      (inl (λ p. b.numbers ((fu.suits.first p).0 ∙ sym zero_number))) b.clear) in
      record {
        drawn = k.drawn;
        turns = k.turns;
        log = k.log;
        words = k.words;
        few = k.few;
        tickets = omega (arith, t₁, t₂, t₃);
        stand = omega (arith, s₁, s₂, s₃, m₁, m₂);
        one_says = omega (arith, y₁, y₂, y₃);
        made = omega (arith, m₁, m₂, r₁, r₂, r₃, room_one, has_room);
        fits = (λ j u bt. ⊎_elim (λ x. fits_left j u x) (λ x. subst (F k.turns k.drawn k.log) (seated-injective n u x.1) right) (at_more changed (seated n) (seated u) j bt));
        apart = (λ i j u x ne bt ct. ⊎_elim
            (λ p. ⊎_elim
            (λ q. pairs_set s.views id w Apart beside k.apart i j u x ne p q)
            (λ q. subst (λ z. Apart u z) (seated-injective n x q.1) (new_and i u p).1)
            (at_more changed (seated n) (seated x) j ct))
            (λ p. ⊎_elim
            (λ q. subst (λ z. Apart z x) (seated-injective n u p.1) (new_and j x q).0)
            (λ q. absurd (ne (p.0 ∙ sym q.0)))
            (at_more changed (seated n) (seated x) j ct))
            (at_more changed (seated n) (seated u) i bt));
        below = k.below;
        known = (λ m d le. let h = known_set s.views id v w (seat_of (get_or k.log m d)) lt at refl refl (k.known m d le) in
            (h.0, h.1, at_longer changed (seated n ∷ []) h.0 (seated h.1) h.2, h.3));
        latest = (let l = latest_set s.views id v w k.log lt at (λ x. x) k.latest in (l.0, l.1, at_longer changed (seated n ∷ []) l.0 (seated l.1) l.2, l.3));
        slot = ⊎_elim (λ x. inl x)
            (λ x. let a = away_set s.views id v w s.homes lt at (λ t e. e) x in let (i, u, t, bt, is) = a.1 in inr (a.0, (i, u, t, at_longer changed (seated n ∷ []) i (seated u) bt, is)))
            k.slot;
      }

  pub splits : (id : ℕ) (m : Standing E C) → SeatedAnd m (λ v. 0 < v.room) → Splits K id m (on gives m) (on given_seat m)
  splits id spent h = absurd h
  splits id (seated v) h = splitting id v h

  -- a seat takes in another, which is idle; neither has been told of more than it has seen
  joining : (id : ℕ) (v : Known E C) (other : ℕ) (w : Known E C) → v.told ≡ [] → w.told ≡ [] → w.stage ≡ idle
      → Joins K id (seated v) other (seated w) (seated (takes_in v w)) spent
  joining id v other w v_told w_told w_idle s k at ne at' =
      let b = takes_in v w in
      let lt = at_within s.views id (seated v) at in
      let changed : List (Standing E C) = set s.views id (seated b) in
      let atw : At s.views other w = sym (set_else s.views id other (seated b) ne) ∙ at' in
      let fv = k.fits id v at in
      let sv = fv.suits in
      let fw = k.fits other w atw in
      let sw = fw.suits in
      let a₁ = total_set tickets_of s.views id (seated v) (seated b) at in
      let a₂ = total_set tickets_of changed other (seated w) spent at' in
      let a₃ = k.tickets in
      let a₄ : tickets_in w.stage ≡ 0 = ap tickets_in w_idle in
      let b₁ = total_set stands_of s.views id (seated v) (seated b) at in
      let b₂ = total_set stands_of changed other (seated w) spent at' in
      let b₃ = k.stand in
      let c₁ = total_set says_of s.views id (seated v) (seated b) at in
      let c₂ = total_set says_of changed other (seated w) spent at' in
      let c₃ = k.one_says in
      let d₁ = total_set made_of s.views id (seated v) (seated b) at in
      let d₂ = total_set made_of changed other (seated w) spent at' in
      let r₁ = total_set room_of s.views id (seated v) (seated b) at in
      let r₂ = total_set room_of changed other (seated w) spent at' in
      let r₃ = k.made in
      let stands_v = sv.stands in
      -- what another seat may not have or give of the seat that ends
      let ended_clear : (u : Known E C) → Apart w u → AreClear u.number u.room ((w.number, w.mine) ∷ w.ended) = λ u apart.
      (apart.numbers, apart.not_to_give, apart.clear) in
      let here : F k.turns k.drawn k.log b = record {
        suits = (let told = sw.seen in
            let stands : 0 < b.stands = omega (arith, stands_v) in
            let unsaid : b.says ≡ 0 → b.made ≡ 0 = λ e. let p = sv.unsaid (omega (arith, e)) in let q = sw.unsaid (omega (arith, e)) in omega (arith, p, q) in
            let first : 0 < b.room → (b.number ≡ 0) × (0 < b.says) = λ p. let q = sv.first p in let says_it = q.1 in (q.0, omega (arith, says_it)) in
            let ended = have_append seat_of k.log v.ended ((w.number, w.mine) ∷ w.ended) sv.ended (sw.own, sw.ended) in
            let clear = clear_append v.number v.room v.ended ((w.number, w.mine) ∷ w.ended) sv.clear (ended_clear v (k.apart other id w v ne atw at)) in
            assumption (told, stands, unsaid, first, ended, clear, sv));
        stage = fv.stage;
      } in
      let beside : (j : ℕ) (u : Known E C) → j ≢ id → j ≢ other → At s.views j u → Apart b u × Apart u b = λ j u ne' ne'' bt.
      let a = k.apart id j v u (λ e. ne' (sym e)) at bt in
      let c = k.apart j id u v ne' bt at in (
        record {
          numbers = a.numbers;
          tickets = a.tickets;
          not_to_give = a.not_to_give;
          clear = clear_append u.number u.room v.ended ((w.number, w.mine) ∷ w.ended) a.clear (ended_clear u (k.apart other j w u (λ e. ne'' (sym e)) atw bt));
        },
        record { numbers = c.numbers; tickets = c.tickets; not_to_give = c.not_to_give; clear = c.clear },
      ) in
      let kept : (j : ℕ) (u : Known E C) → j ≢ other → At changed j u → At (set changed other spent) j u = λ j u ne' bt. set_else changed other j spent ne' ∙ bt in
      let itself : At (set changed other spent) id b = kept id b (λ e. ne (sym e)) (set_here s.views id (seated b) lt) in
      let none_known : w.told ≡ k.log → v.seen ≡ k.log = λ e. sym (starts_whole k.log v.seen sv.seen (omega (arith, ap length (sym e ∙ w_told)))) in
      record {
        drawn = k.drawn;
        turns = k.turns;
        log = k.log;
        words = k.words;
        few = k.few;
        tickets = omega (arith, a₁, a₂, a₃, a₄);
        stand = omega (arith, b₁, b₂, b₃, d₁, d₂);
        one_says = omega (arith, c₁, c₂, c₃);
        made = omega (arith, d₁, d₂, r₁, r₂, r₃);
        fits = (λ j u bt. let t = each_spent changed other j u bt in each_set s.views id b (F k.turns k.drawn k.log) here (λ j u ne' ct. k.fits j u ct) j u t.1);
        apart = (λ i j u x ne' bt ct. let p = each_spent changed other i u bt in let q = each_spent changed other j x ct in
            pairs_in s.views id b Apart (λ j. j ≢ other) beside k.apart i j u x ne' p.0 q.0 p.1 q.1);
        below = k.below;
        known = (λ m d le. let (j, u, bt, is) = k.known m d le in
            let n : ℕ = seat_of (get_or k.log m d) in
            let more : List (ℕ × List E) = (w.number, w.mine) ∷ w.ended in
            dite (ℕ_discrete j id)
            (λ e. let same : u ≡ v = same_view s.views id u v (subst (λ n. At s.views n u) e bt) at in (
              id,
              b,
              itself,
              ⊎_elim (λ x. inl (ap (λ z. z.number) (sym same) ∙ x))
                  (λ x. inr (among_left n v.ended more (subst (IsAmong n) (ap (λ z. z.ended) same) x))) is,
            ))
            (λ ne'. dite (ℕ_discrete j other)
            (λ e. let same : u ≡ w = same_view s.views other u w (subst (λ n. At s.views n u) e bt) atw in (
              id,
              b,
              itself,
              inr (among_right n v.ended more (⊎_elim (λ x. inl (ap (λ z. z.number) (sym same) ∙ x)) (λ x. inr (subst (IsAmong n) (ap
                  (λ z. z.ended) same) x)) is)),
            ))
            (λ ne''. (j, u, kept j u ne'' (set_else s.views id j (seated b) ne' ∙ bt), is))));
        latest = (let (j, u, bt, is) = k.latest in dite (ℕ_discrete j id)
            (λ e. let same : u ≡ v = same_view s.views id u v (subst (λ n. At s.views n u) e bt) at in
            (id, b, itself, inl (⊎_elim (λ x. ap (λ z. z.seen) (sym same) ∙ x) (λ x. sym (starts_whole k.log v.seen sv.seen (omega (arith, ap length (sym x ∙ ap (λ z. z.told) same ∙ v_told))))) is)))
            (λ ne'. dite (ℕ_discrete j other)
            (λ e. let same : u ≡ w = same_view s.views other u w (subst (λ n. At s.views n u) e bt) atw in
            (id, b, itself, ⊎_elim (λ x. inr (ap (λ z. z.seen) (sym same) ∙ x)) (λ x. inl (none_known (ap (λ z. z.told) (sym same) ∙ x))) is))
            (λ ne''. (j, u, kept j u ne'' (set_else s.views id j (seated b) ne' ∙ bt), is))));
        slot = ⊎_elim (λ x. inl x)
            (λ x. let (j, u, t, bt, is) = x.1 in dite (ℕ_discrete j id)
            (λ e. let same : u ≡ v = same_view s.views id u v (subst (λ n. At s.views n u) e bt) at in inr (x.0, (id, b, t, itself, ap (λ z. z.stage) (sym same) ∙ is)))
            (λ ne'. dite (ℕ_discrete j other)
            (λ e. let same : u ≡ w = same_view s.views other u w (subst (λ n. At s.views n u) e bt) atw in absurd (idle-not-serving w.stage t w_idle (ap (λ z. z.stage) (sym same) ∙ is)))
            (λ ne''. inr (x.0, (j, u, t, kept j u ne'' (set_else s.views id j (seated b) ne' ∙ bt), is)))))
            k.slot;
      }

  pub joins : (id : ℕ) (m : Standing E C) (other : ℕ) (n : Standing E C) → SeatedAnd m (λ v. v.told ≡ [])
      → SeatedAnd n (λ w. (w.told ≡ []) × (w.stage ≡ idle)) → Joins K id m other n (both_seats m n) spent
  joins id spent other n h g = absurd h
  joins id (seated v) other spent h g = absurd g
  joins id (seated v) other (seated w) h g = joining id v other w h g.0 g.1

  closing : (id : ℕ) (v : Known E C) (words : List ℕ) (slots : List (Option B)) → MayClose v
      → Final (Seen K id (seated v)) words slots
      → (x : B) × (get_elem? slots 0 ≡ some (Some x)) × Closes history seat_of base_of x v
  closing id v words slots may (s, (k, at), same_words, same_length, homes) =
      let fv = k.fits id v at in
      let sv = fv.suits in
      let stands_v = sv.stands in
      let all = may.all in
      let says_v : 0 < v.says = dite (ℕ_discrete v.says 0) (λ e. let m = sv.unsaid e in absurd (omega (arith, m, stands_v, all))) (λ ne. omega (arith, ne)) in
      let one = k.one_says in
      let stand = k.stand in
      let others_made : (j : ℕ) (w : Standing E C) → j ≢ id → get_elem? s.views j ≡ some w → made_of w ≡ 0 = λ j w ne bt. none_made j w ne bt says_v one k at in
      let made_total = total_only made_of s.views id (seated v) at others_made in
      let alone : (j : ℕ) (u : Known E C) → At s.views j u → u ≡ v = λ j u bt. dite (ℕ_discrete j id)
      (λ e. same_view s.views id u v (subst (λ n. At s.views n u) e bt) at)
      (λ ne. let two = total_two stands_of s.views id j (seated v) (seated u) (λ e. ne (sym e)) at bt in let stands_u = (k.fits j u bt).suits.stands in
      absurd (omega (arith, two, stands_u, stand, made_total, all))) in
      let whole : v.seen ≡ k.log = (let (j, u, bt, is) = k.latest in let same = alone j u bt in
      ⊎_elim (λ x. ap (λ z. z.seen) (sym same) ∙ x)
      (λ x. sym (starts_whole k.log v.seen sv.seen (omega (arith, ap length (sym x ∙ ap (λ z. z.told) same ∙ may.told))))) is) in
      let home : IsAtHome history seat_of base_of base seats k.log s.homes = ⊎_elim (λ x. x)
      (λ x. let (j, u, t, bt, is) = x.1 in absurd (idle-not-serving v.stage t may.resting (ap (λ z. z.stage) (sym (alone j u bt)) ∙ is))) k.slot in (
        home.0,
        homes 0 (Some home.0) (ap (λ h. get_elem? h 0) home.1),
        record {
          whole = home.2 ∙ sym whole;
          below = subst (λ n. AllBelow seat_of n (history home.0)) (sym sv.seats_is) (subst (AllBelow seat_of seats) (sym home.2) k.below);
          based = home.3 ∙ sym sv.base_is;
          events = (λ n. ap (events_of seat_of n) home.2 ∙ all_under seat_of k.log ((v.number, v.mine) ∷ v.ended) (sv.own, sv.ended)
              (λ m d le. let (j, u, bt, is) = k.known m d le in let same = alone j u bt in let number : ℕ = seat_of (get_or k.log m d) in
              ⊎_elim (λ x. inl (ap (λ z. z.number) (sym same) ∙ x)) (λ x. inr (subst (IsAmong number) (ap (λ z. z.ended) same) x)) is) n);
        },
      )
    where
      none_made : (j : ℕ) (w : Standing E C) → j ≢ id → get_elem? s.views j ≡ some w → 0 < v.says
          → total says_of s.views ≡ 1 → K s → At s.views id v → made_of w ≡ 0
      none_made j spent ne bt says_v one k at = refl
      none_made j (seated u) ne bt says_v one k at =
          let two = total_two says_of s.views id j (seated v) (seated u) (λ e. ne (sym e)) at bt in
          (k.fits j u bt).suits.unsaid (omega (arith, two, says_v, one))

  pub closes : (id : ℕ) (m : Standing E C) (words : List ℕ) (slots : List (Option B)) → SeatedAnd m MayClose
      → Final (Seen K id m) words slots
      → (x : B) × (get_elem? slots 0 ≡ some (Some x)) × SeatedAnd m (Closes history seat_of base_of x)
  closes id spent words slots h f = absurd h
  closes id (seated v) words slots h f = closing id v words slots h f
