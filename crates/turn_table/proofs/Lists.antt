-- Beginnings of one history, and the events of one seat in it.
use Rattle.std.proofs.Common.{◌≡◌, ◌≢◌, ℕ, suc, ◌<◌, ◌≤◌, ◌==◌, Bool, true, false, cond, nat_lt, ◌⊎◌, List, [], ◌∷◌, ◌++◌, length, drop, sym, refl, ap, ◌∙◌, subst, inl, inr, ⊎_elim, All, append_assoc, append-nil, arith, length-append, eq-eqb, ne_eqb, ltb-true, ltb-false}
use Rattle.std.proofs.lemmas.List.{nil_from_length}
use Rattle.std.proofs.lemmas.List.Elements.{filter-append}
use mathlib.Core.Logic.{dite}
use native.Mathlib.Decide.{ℕ_discrete}
use Rattle.turn_table.specs.Events.{StartsWith, longer, events_of, events_under, AllOf, AllBelow, AreClear, HaveEvents, IsAmong}

module _ {E : Type 0} where
  pub starts_same : (xs ys : List E) → xs ≡ ys → StartsWith xs ys
  starts_same xs ys e = ([], e ∙ sym (append-nil ys))

  pub starts_more : (xs ys zs : List E) → StartsWith xs ys → StartsWith (xs ++ zs) ys
  starts_more xs ys zs s = (s.0 ++ zs, ap (λ l. l ++ zs) s.1 ∙ append_assoc ys s.0 zs)

  -- a beginning that is as long is the whole
  pub starts_whole : (xs ys : List E) → StartsWith xs ys → length xs ≤ length ys → xs ≡ ys
  starts_whole xs ys s le = let n : length s.0 ≡ 0 = omega (arith, ap length s.1, length-append ys s.0, le) in s.1 ∙ ap (λ l. ys ++ l) (nil_from_length s.0 n) ∙ append-nil ys

  pub starts_length : (xs ys : List E) → StartsWith xs ys → length ys ≤ length xs
  starts_length xs ys s = omega (arith, ap length s.1, length-append ys s.0)

  tail : List E → List E
  tail [] = []
  tail (x ∷ xs) = xs

  head : E → List E → E
  head d [] = d
  head d (x ∷ xs) = x

  pub tail-cons : (x y : E) (xs ys : List E) → x ∷ xs ≡ y ∷ ys → xs ≡ ys
  unfolding tail
  tail-cons x y xs ys e = ap tail e

  pub head-cons : (x y : E) (xs ys : List E) → x ∷ xs ≡ y ∷ ys → x ≡ y
  unfolding head
  head-cons x y xs ys e = ap (head x) e

  -- of two beginnings of one list the shorter begins the longer
  shorter : (xs ys rs qs : List E) → xs ++ rs ≡ ys ++ qs → length xs ≤ length ys → StartsWith ys xs
  shorter [] ys rs qs e le = (ys, refl)
  shorter (x ∷ xs) [] rs qs e le = absurd (omega (arith, le))
  shorter (x ∷ xs) (y ∷ ys) rs qs e le = let t = shorter xs ys rs qs (tail-cons x y (xs ++ rs) (ys ++ qs) e) (omega (arith, le)) in
      (t.0, ap (λ l. y ∷ l) t.1 ∙ ap (λ z. z ∷ (xs ++ t.0)) (sym (head-cons x y (xs ++ rs) (ys ++ qs) e)))

  pub shorter_begins : (log xs ys : List E) → StartsWith log xs → StartsWith log ys → length xs ≤ length ys → StartsWith ys xs
  shorter_begins log xs ys s t le = shorter xs ys s.0 t.0 (sym s.1 ∙ t.1) le

  pub record LongerIs (log xs ys : List E) : Type 0 where
    pub first : StartsWith (longer xs ys) xs
    pub second : StartsWith (longer xs ys) ys
    pub whole : StartsWith log (longer xs ys)

  longer_by : (log xs ys : List E) → StartsWith log xs → StartsWith log ys → (b : Bool)
      → nat_lt (length xs) (length ys) ≡ b → LongerIs log xs ys
  longer_by log xs ys s t true e = let P : List E → Type 0 = λ l. StartsWith l xs × StartsWith l ys × StartsWith log l in
      let p : P (longer xs ys) = subst (λ b. P (cond b ys xs)) (sym e) (shorter_begins log xs ys s t (grind (arith, ltb-true, e)), starts_same ys ys refl, t) in
      record { first = p.0; second = p.1; whole = p.2 }
  longer_by log xs ys s t false e = let P : List E → Type 0 = λ l. StartsWith l xs × StartsWith l ys × StartsWith log l in
      let p : P (longer xs ys) = subst (λ b. P (cond b ys xs)) (sym e) (starts_same xs xs refl, shorter_begins log ys xs t s (grind (arith, ltb-false, e)), s) in
      record { first = p.0; second = p.1; whole = p.2 }

  pub longer_is : (log xs ys : List E) → StartsWith log xs → StartsWith log ys → LongerIs log xs ys
  longer_is log xs ys s t = longer_by log xs ys s t (nat_lt (length xs) (length ys)) refl

  -- where one of two beginnings is the whole, so is the longer
  pub longer_whole : (log xs ys : List E) → StartsWith log xs → StartsWith log ys → (xs ≡ log) ⊎ (ys ≡ log) → longer xs ys ≡ log
  longer_whole log xs ys s t (inl e) = let l = longer_is log xs ys s t in
      sym (starts_whole log (longer xs ys) l.whole (omega (arith, ap length e, starts_length (longer xs ys) xs l.first)))
  longer_whole log xs ys s t (inr e) = let l = longer_is log xs ys s t in
      sym (starts_whole log (longer xs ys) l.whole (omega (arith, ap length e, starts_length (longer xs ys) ys l.second)))

  pub drop_front : (xs ys : List E) → drop (length xs) (xs ++ ys) ≡ ys
  drop_front [] ys = refl
  drop_front (x ∷ xs) ys = drop_front xs ys

  module _ (seat_of : E → ℕ) where
    abbrev ev : ℕ → List E → List E
    ev = events_of seat_of

    pub events_more : (n : ℕ) (xs ys : List E) → events_of seat_of n (xs ++ ys) ≡ events_of seat_of n xs ++ events_of seat_of n ys
    events_more n xs ys = filter-append (λ e. seat_of e == n) xs ys

    pub events_own : (n : ℕ) (xs : List E) → AllOf seat_of n xs → events_of seat_of n xs ≡ xs
    events_own n [] h = refl
    events_own n (x ∷ xs) h = subst (λ b. cond b (x ∷ ev n xs) (ev n xs) ≡ x ∷ xs) (sym (eq-eqb (seat_of x) n (h 0 x (omega arith))))
        (ap (λ l. x ∷ l) (events_own n xs (λ k d le. h (suc k) d (omega (arith, le)))))

    pub events_others : (m n : ℕ) (xs : List E) → m ≢ n → AllOf seat_of n xs → events_of seat_of m xs ≡ []
    events_others m n [] ne h = refl
    events_others m n (x ∷ xs) ne h = subst (λ b. cond b (x ∷ ev m xs) (ev m xs) ≡ []) (sym (ne_eqb (seat_of x) m (λ e. ne (sym e ∙ h 0 x (omega arith)))))
        (events_others m n xs ne (λ k d le. h (suc k) d (omega (arith, le))))

    pub events_start : (n : ℕ) (xs ys : List E) → StartsWith xs ys → StartsWith (events_of seat_of n xs) (events_of seat_of n ys)
    events_start n xs ys s = (events_of seat_of n s.0, ap (ev n) s.1 ∙ events_more n ys s.0)

    -- a history between two with the same events of a seat has them too
    pub events_between : (n : ℕ) (log mid low mine : List E) → StartsWith log mid → StartsWith mid low
        → events_of seat_of n low ≡ mine → events_of seat_of n log ≡ mine → events_of seat_of n mid ≡ mine
    events_between n log mid low mine s t a b =
        let u = events_start n log mid s in let v = events_start n mid low t in
        sym (starts_whole (ev n log) (ev n mid) u (omega (arith, ap length a, ap length b, starts_length (ev n mid) (ev n low) v))) ∙ b

    pub events_none : (n : ℕ) (log front : List E) → StartsWith log front → events_of seat_of n log ≡ [] → events_of seat_of n front ≡ []
    events_none n log front s e = let u = events_start n log front s in nil_from_length (ev n front) (omega (arith, ap length e, starts_length (ev n log) (ev n front) u))

    pub below_of : (n seats : ℕ) (xs : List E) → n < seats → AllOf seat_of n xs → AllBelow seat_of seats xs
    below_of n seats xs lt h k d le = let e = h k d le in subst (λ (m : ℕ). m < seats) (sym e) lt

    -- seats that ended have the same events of a history that grew by another seat's
    pub ended_more : (log added : List E) (n room : ℕ) (ended : List (ℕ × List E)) → HaveEvents seat_of log ended → AreClear n room ended
        → AllOf seat_of n added
        → HaveEvents seat_of (log ++ added) ended
    ended_more log added n room [] have clear all = tt
    ended_more log added n room (seat ∷ ended) have clear all = (
      events_more seat.0 log added ∙ ap (λ l. events_of seat_of seat.0 log ++ l) (events_others seat.0 n added clear.0 all)
          ∙ append-nil (events_of seat_of seat.0 log) ∙ have.0,
      ended_more log added n room ended have.1 clear.2 all,
    )

    pub have_append : (log : List E) (xs ys : List (ℕ × List E)) → HaveEvents seat_of log xs → HaveEvents seat_of log ys
        → HaveEvents seat_of log (xs ++ ys)
    have_append log [] ys h k = k
    have_append log (x ∷ xs) ys h k = (h.0, have_append log xs ys h.1 k)

    -- a history without events of a number
    none_of : (n : ℕ) (log : List E) → All (λ e. seat_of e ≢ n) log → events_of seat_of n log ≡ []
    none_of n [] none = refl
    none_of n (x ∷ xs) none = subst (λ b. cond b (x ∷ ev n xs) (ev n xs) ≡ []) (sym (ne_eqb (seat_of x) n (none 0 x (omega arith))))
        (none_of n xs (λ k d le. none (suc k) d (omega (arith, le))))

    found_under : (n : ℕ) (log : List E) (seats : List (ℕ × List E)) → HaveEvents seat_of log seats → IsAmong n seats
        → events_of seat_of n log ≡ events_under n seats
    found_under n log [] have among = absurd among
    found_under n log (seat ∷ seats) have among = dite (ℕ_discrete seat.0 n)
        (λ e. subst (λ b. events_of seat_of n log ≡ cond b seat.1 (events_under n seats)) (sym (eq-eqb seat.0 n e))
        (subst (λ m. events_of seat_of m log ≡ seat.1) e have.0))
        (λ ne. subst (λ b. events_of seat_of n log ≡ cond b seat.1 (events_under n seats)) (sym (ne_eqb seat.0 n ne))
        (found_under n log seats have.1 (⊎_elim (λ e. absurd (ne e)) (λ rest. rest) among)))

    none_under : (n : ℕ) (seats : List (ℕ × List E)) → (IsAmong n seats → ⊥) → events_under n seats ≡ []
    none_under n [] none = refl
    none_under n (seat ∷ seats) none = subst (λ b. cond b seat.1 (events_under n seats) ≡ []) (sym (ne_eqb seat.0 n (λ e. none (inl e))))
        (none_under n seats (λ rest. none (inr rest)))

    among_or : (n : ℕ) (seats : List (ℕ × List E)) → IsAmong n seats ⊎ (IsAmong n seats → ⊥)
    among_or n [] = inr (λ none. none)
    among_or n (seat ∷ seats) = dite (ℕ_discrete seat.0 n) (λ e. inl (inl e))
        (λ ne. ⊎_elim (λ rest. inl (inr rest)) (λ none. inr (λ h. ⊎_elim ne none h)) (among_or n seats))

    -- where each event is of one of these seats, whatever number has the events that stand with it
    pub all_under : (log : List E) (seats : List (ℕ × List E)) → HaveEvents seat_of log seats → All (λ e. IsAmong (seat_of e) seats) log
        → (n : ℕ) → events_of seat_of n log ≡ events_under n seats
    all_under log seats have all n = ⊎_elim (λ among. found_under n log seats have among)
        (λ none. none_of n log (λ k d le e. none (subst (λ m. IsAmong m seats) e (all k d le))) ∙ sym (none_under n seats none))
        (among_or n seats)

module _ {E : Type 0} where
  pub among_left : (n : ℕ) (xs ys : List (ℕ × List E)) → IsAmong n xs → IsAmong n (xs ++ ys)
  among_left n [] ys h = absurd h
  among_left n (x ∷ xs) ys h = ⊎_elim (λ e. inl e) (λ rest. inr (among_left n xs ys rest)) h

  pub among_right : (n : ℕ) (xs ys : List (ℕ × List E)) → IsAmong n ys → IsAmong n (xs ++ ys)
  among_right n [] ys h = h
  among_right n (x ∷ xs) ys h = inr (among_right n xs ys h)

  pub clear_append : (number room : ℕ) (xs ys : List (ℕ × List E)) → AreClear number room xs → AreClear number room ys
      → AreClear number room (xs ++ ys)
  clear_append number room [] ys h k = k
  clear_append number room (x ∷ xs) ys h k = (h.0, h.1, clear_append number room xs ys h.2 k)

  -- a seat that may give fewer numbers
  pub clear_less : (number room less : ℕ) (seats : List (ℕ × List E)) → less ≤ room → AreClear number room seats
      → AreClear number less seats
  clear_less number room less [] le h = tt
  clear_less number room less (seat ∷ seats) le h = (h.0, (λ p q. h.1 p (omega (arith, q, le))), clear_less number room less seats le h.2)

  -- the seat that has the greatest number that could be given
  pub clear_given : (number room : ℕ) (seats : List (ℕ × List E)) → 0 < room → AreClear number room seats → AreClear room 0 seats
  clear_given number room [] some h = tt
  clear_given number room (seat ∷ seats) some h =
      ((λ e. h.1 (omega (arith, e, some)) (omega (arith, e))), (λ p q. omega (arith, p, q)), clear_given number room seats some h.2)
