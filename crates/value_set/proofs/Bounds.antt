-- Sets of numbers below a bound of at most half the modulus: joins, and sets of such numbers, stay below it.
use Rattle.std.proofs.Common.{◌≡◌, ℕ, ◌+◌, ◌-◌, ◌*◌, ◌/◌, ◌%◌, ◌<◌, ◌≤◌, true, List, [], ◌∷◌, ◌++◌, length, refl, sym, ◌∙◌, subst, inl, inr, arith, nat_lt, nat_le}
use Prim.Native.Nat.{zero, suc}
use Rattle.std.specs.Prelude.{◌⊎◌, ◌==◌, slice_index}
use Rattle.std.specs.List.{Contains, fold}
use Rattle.std.proofs.Math.Nat.{mod-eq_of_lt, mod-eq-sub-mod, mod-le, mul-le-mul_right, div-mul-le_self}
use Rattle.std.proofs.lemmas.Bool.{cases_Bool, cases_order, eqb-true, ltb-true, ltb-false, leb-false, le-ltb, lt-leb, lt-ltb, ne_eqb}
use Rattle.value_set.specs.declared.form.Progression.{Progression}
use Rattle.value_set.specs.declared.form.Stretch.{Stretch}
use Rattle.value_set.specs.declared.form.Form.{Form}
use Rattle.value_set.specs.declared.form.Form.TheVariants.{Values, Run}
use Rattle.value_set.specs.Form.{steps, Has, Ascends, IsNormal, put, ascending, make, above, behind_widest, hull_base, common_stride, greater, farthest, hull, span, set_of, gather}
use Rattle.value_set.specs.Joining.{is_within, reach, candidate, stretched, is_second, choose, join_spans, join_apart, join}
use Rattle.value_set.specs.Laws.{AreBelow, IsBelow}
use Rattle.value_set.specs.ListFacts.{in_either, IsIn, in_from_Contains, Contains_from_in}
use Rattle.value_set.specs.StepFacts.{steps_from}
use Rattle.value_set.proofs.Members.{in_put, in_ascending, Ascends-put_all, steps_has}

-- ---- lists

abbrev AllLow : ℕ → List ℕ → Type 0
AllLow n xs = (v : ℕ) → IsIn v xs → v < n

all_low : (n : ℕ) (xs : List ℕ) → AreBelow n xs → AllLow n xs
all_low n xs below v there = below v (Contains_from_in xs v there)

ascending_low : (n v : ℕ) (xs : List ℕ) → AllLow n xs → Contains (ascending xs) v → v < n
ascending_low n v xs low there = low v (in_ascending v xs (in_from_Contains (ascending xs) v there))

pub put_below : (n v : ℕ) (xs : List ℕ) → v < n → AreBelow n xs → AreBelow n (put v xs)
put_below n v xs here below w there = elim (in_put v w xs (in_from_Contains (put v xs) w there)) [
  | inl is ↦ subst (λ (u : ℕ). u < n) is here
  | inr held ↦ below w (Contains_from_in xs w held)
]

-- ---- runs

low_steps : (n m b d c v : ℕ) → b + (c - 1) * d < n → n ≤ m → Contains (steps m b d c) v → v < n
low_steps n m b d c v low h k =
    let s = steps_from m b d c v k in
    let product = mul-le-mul_right {m = s.0} {n = c - 1} d (omega (arith, s.1)) in
    let small : b + s.0 * d < n = omega (arith, product, low) in
    subst (λ (w : ℕ). w < n) (sym (s.2 ∙ mod-eq_of_lt (omega (arith, small, h)))) small

lower_base : (n b low d c : ℕ) → low ≤ b → b + (c - 1) * d < n → low + (c - 1) * d < n
lower_base n b low d c h k = omega arith

pub make_below : (n m b d c : ℕ) → b + (c - 1) * d < n → n ≤ m → IsBelow m n (make m b d c)
unfolding make
make_below n m b d c low h v = elim (cases_Bool (nat_le c 16)) [
  | inl few ↦ rw few (ascending_low n v (steps m b d c) (all_low n (steps m b d c) (λ w there. low_steps n m b d c w low h there)))
  | inr many ↦ rw many (elim (cases_Bool (c * d == m)) [
    | inl whole ↦ rw whole (λ k. low_steps n m (b % d) d c v (lower_base n b (b % d) d c (mod-le b d) low) h k)
    | inr apart ↦ rw apart (λ k. low_steps n m (b % m) d c v (lower_base n b (b % m) d c (mod-le b m) low) h k)
  ])
]

-- a run that stays below a bound
abbrev IsLow : ℕ → Progression → Type 0
IsLow n p = p.base + reach p < n

next_step : (n m b d i : ℕ) → n + n ≤ m → d + d < m → b + i * d < n → (b + suc i * d) % m < n → b + suc i * d < n
next_step n m b d i half stride here next =
    let e : b + suc i * d ≡ b + i * d + d = omega arith in
    let small : b + suc i * d < m = omega (arith, e, half, stride, here) in
    subst (λ (w : ℕ). w < n) (mod-eq_of_lt small) next

climbs : (n m b d c : ℕ) → n + n ≤ m → d + d < m → b < m → ((i : ℕ) → i < c → (b + i * d) % m < n) → (i : ℕ) → i < c → b + i * d < n
climbs n m b d c half stride below low zero short =
    let e : b + 0 * d ≡ b = omega arith in
    subst (λ (w : ℕ). w < n) (mod-eq_of_lt (omega (arith, e, below))) (low 0 short)
climbs n m b d c half stride below low (suc i) short =
    next_step n m b d i half stride (climbs n m b d c half stride below low i (omega arith)) (low (suc i) short)

run_low : (n m b d c : ℕ) → n + n ≤ m → 17 ≤ c → b < m → (c - 1) * d < m
    → ((v : ℕ) → Contains (steps m b d c) v → v < n) → b + (c - 1) * d < n
run_low n m b d c half long below once low =
    let product = mul-le-mul_right {m = 2} {n = c - 1} d (omega arith) in
    climbs n m b d c half (omega (arith, product, once)) below (λ i short. low ((b + i * d) % m) (steps_has m b d c ((b + i * d) % m) (i, short, refl))) (c - 1) (omega arith)

-- ---- hulls

widest_stays : (n best width previous : ℕ) (xs : List ℕ) → AllLow n xs → n ≤ width → behind_widest best width previous xs ≡ best
unfolding behind_widest
widest_stays n best width previous [] h k = refl
widest_stays n best width previous (x ∷ xs) h k =
    let narrow : x - previous ≤ width = omega (arith, h x (inl refl)) in
    rw (le-ltb width (x - previous) narrow) (widest_stays n best width x xs (λ v there. h v (inr there)) k)

last_low : (n x : ℕ) (xs : List ℕ) → AllLow n (x ∷ xs) → slice_index (x ∷ xs) (length xs) < n
last_low n x [] h = h x (inl refl)
last_low n x (y ∷ ys) h = last_low n y ys (λ v there. h v (inr there))

base_first : (n m x : ℕ) (xs : List ℕ) → n + n ≤ m → AllLow n (x ∷ xs) → hull_base m (x ∷ xs) ≡ x
unfolding hull_base
base_first n m x xs half h = widest_stays n x (x + m - slice_index (x ∷ xs) (length xs)) x xs (λ v there. h v (inr there))
    (let last = last_low n x xs h in omega (arith, last, half))

abbrev IsAbove : ℕ → List ℕ → Type 0
IsAbove from [] = Unit {0}
IsAbove from (x ∷ xs) = (from ≤ x) × IsAbove from xs

ascends_above : (from low m : ℕ) (xs : List ℕ) → from ≤ low → Ascends low m xs → IsAbove from xs
ascends_above from low m [] h a = tt
ascends_above from low m (x ∷ xs) h a = (omega (arith, a.0), ascends_above from (x + 1) m xs (omega (arith, a.0)) a.2)

above_up : (m from v : ℕ) → from ≤ v → v < m → above m from v ≡ v - from
above_up m from v h k = let round : m ≤ v + m - from = omega arith in
    mod-eq-sub-mod round ∙ mod-eq_of_lt (omega arith) ∙ (omega arith)

above_down : (m from v : ℕ) → v < from → from < m → above m from v ≡ v + m - from
above_down m from v h k = mod-eq_of_lt (omega arith)

low_greater : (n from a b : ℕ) → from + a < n → from + b < n → from + greater a b < n
low_greater n from a b h k = elim (cases_Bool (nat_lt a b)) [ inl less ↦ rw less k | inr more ↦ rw more h ]

farthest_low : (n m from far : ℕ) (xs : List ℕ) → n ≤ m → AllLow n xs → IsAbove from xs → from + far < n
    → from + fold (λ most v. greater most (above m from v)) far xs < n
farthest_low n m from far [] h low rises k = k
farthest_low n m from far (x ∷ xs) h low rises k =
    let here = low x (inl refl) in
    let e = above_up m from x rises.0 (omega (arith, here)) in
    farthest_low n m from (greater far (above m from x)) xs h (λ v there. low v (inr there)) rises.1
    (low_greater n from far (above m from x) k (omega (arith, e, here, rises.0)))

ends_low : (n b far stride : ℕ) → b + far < n → b + (far / stride + 1 - 1) * stride < n
ends_low n b far stride h = let e : far / stride + 1 - 1 ≡ far / stride = omega arith in rw e (omega (arith, div-mul-le_self far stride))

hull_low : (n m : ℕ) (xs : List ℕ) → n + n ≤ m → 1 ≤ length xs → AllLow n xs → Ascends 0 m xs → IsLow n (hull m xs)
unfolding hull
hull_low n m [] half some low a = absurd (omega arith)
hull_low n m (x ∷ xs) half some low a =
    let far : x + farthest m x (x ∷ xs) < n =
    farthest_low n m x 0 (x ∷ xs) (omega arith) low (omega arith, ascends_above x (x + 1) m xs (omega arith) a.2) (omega (arith, low x (inl refl))) in
    ends_low n (hull_base m (x ∷ xs)) (farthest m (hull_base m (x ∷ xs)) (x ∷ xs)) (common_stride m (hull_base m (x ∷ xs)) (x ∷ xs))
    (subst (λ (b : ℕ). b + farthest m b (x ∷ xs) < n) (sym (base_first n m x xs half low)) far)

span_low : (n m : ℕ) (set : Form) → n + n ≤ m → IsNormal m set → ((v : ℕ) → Has m set v → v < n) → IsLow n (span m set)
span_low n m (Values xs) half normal low = hull_low n m xs half normal.0 (all_low n xs low) normal.2
span_low n m (Run p) half normal low = run_low n m p.base p.stride p.count half normal.long normal.below normal.once low

-- ---- joins

abbrev EndsLow : ℕ → Stretch → Type 0
EndsLow n s = s.base + s.end < n

candidate_low : (n m : ℕ) (p q : Progression) → n ≤ m → p.base ≤ q.base → IsLow n p → IsLow n q → EndsLow n (candidate m p q)
unfolding candidate
candidate_low n m p q h order low other =
    let e = above_up m p.base q.base order (omega (arith, other)) in
    low_greater n p.base (reach p) (above m p.base q.base + reach q) low (omega (arith, e, other, order))

greater_second : (a b : ℕ) → b ≤ greater a b
greater_second a b = elim (cases_Bool (nat_lt a b)) [ inl less ↦ rw less (omega arith) | inr more ↦ rw more (ltb-false a b more) ]

candidate_far : (n m : ℕ) (p q : Progression) → n + n ≤ m → q.base < p.base → IsLow n p → n ≤ (candidate m p q).end
unfolding candidate
candidate_far n m p q half order low =
    let e = above_down m p.base q.base order (omega (arith, low)) in
    let far = greater_second (reach p) (above m p.base q.base + reach q) in
    omega (arith, e, far, low, half, order)

stretched_low : (n m v : ℕ) (s : Stretch) → n ≤ m → EndsLow n s → Has m (stretched m s) v → v < n
stretched_low n m v s h low = make_below n m s.base s.stride (s.end / s.stride + 1) (ends_low n s.base s.end s.stride low) h v

second_ends : (m : ℕ) (one other : Stretch) → one.end < m → is_second m one other ≡ true → other.end ≤ one.end
second_ends m one other below = elim (cases_Bool (nat_le m other.end)) [
  | inl round ↦ rw round (λ h. absurd (cc h))
  | inr once ↦ rw (once, lt-leb m one.end below) (elim (cases_Bool (other.end == one.end)) [
    | inl same ↦ λ h. (let e : other.end ≡ one.end = eqb-true other.end one.end same in omega arith)
    | inr differ ↦ rw differ (λ h. (let less : other.end < one.end = ltb-true other.end one.end h in omega arith))
  ])
]

second_taken : (m : ℕ) (one other : Stretch) → other.end < m → other.end < one.end → is_second m one other ≡ true
second_taken m one other below less = rw (lt-leb m other.end below) (elim (cases_Bool (nat_le m one.end)) [
  | inl round ↦ rw round refl
  | inr once ↦ let differ : other.end ≡ one.end → ⊥ = λ e. omega arith in
      rw (once, ne_eqb other.end one.end differ) (lt-ltb other.end one.end less)
])

first_low : (n m v : ℕ) (one other : Stretch) → n ≤ m → EndsLow n one → EndsLow n other ⊎ (n ≤ other.end)
    → Has m (choose m one other) v → v < n
unfolding choose
first_low n m v one other h low ends =
    let below : one.end < m = omega (arith, low) in
    elim (cases_Bool (is_second m one other)) [
      | inl second ↦ rw second (elim ends [
        | inl good ↦ stretched_low n m v other h good
        | inr far ↦ λ k. absurd (let e = second_ends m one other below second in omega (arith, e, far, low))
      ])
      | inr first ↦ rw (first, lt-ltb one.end m below) (stretched_low n m v one h low)
    ]

second_low : (n m v : ℕ) (one other : Stretch) → n ≤ m → EndsLow n other → n ≤ one.end → Has m (choose m one other) v → v < n
unfolding choose
second_low n m v one other h low far = rw (second_taken m one other (omega (arith, low)) (omega (arith, low))) (stretched_low n m v other h low)

spans_low : (n m v : ℕ) (p q : Progression) → n + n ≤ m → IsLow n p → IsLow n q → Has m (join_spans m p q) v → v < n
spans_low n m v p q half low other = elim (cases_order p.base q.base) [
  | inl same ↦ first_low n m v (candidate m p q) (candidate m q p) (omega arith) (candidate_low n m p q (omega arith) (omega arith) low other)
      (inl (candidate_low n m q p (omega arith) (omega arith) other low))
  | inr apart ↦ elim apart [
    | inl less ↦ first_low n m v (candidate m p q) (candidate m q p) (omega arith) (candidate_low n m p q (omega arith) (omega arith) low other)
        (inr (candidate_far n m q p half less other))
    | inr more ↦ second_low n m v (candidate m p q) (candidate m q p) (omega arith) (candidate_low n m q p (omega arith) (omega arith) other low)
        (candidate_far n m p q half more low)
  ]
]

apart_low : (n m v : ℕ) (a b : Form) → n + n ≤ m → IsNormal m a → IsNormal m b → ((w : ℕ) → Has m a w → w < n)
    → ((w : ℕ) → Has m b w → w < n)
    → Has m (join_apart m a b) v → v < n
unfolding join_apart
apart_low n m v (Values xs) (Values ys) half k l low other = elim (cases_Bool (nat_le (length (ascending (xs ++ ys))) 16)) [
  | inl few ↦ rw few (ascending_low n v (xs ++ ys) (λ w there. elim (in_either w xs ys there) [ inl one ↦ all_low n xs low w one | inr two ↦ all_low n ys other w two ]))
  | inr many ↦ rw many (spans_low n m v (hull m xs) (hull m ys) half (span_low n m (Values xs) half k low) (span_low n m (Values ys) half l other))
]
apart_low n m v (Values xs) (Run q) half k l low other = spans_low n m v (hull m xs) q half (span_low n m (Values xs) half k low) (span_low n m (Run q) half l other)
apart_low n m v (Run p) second half k l low other = spans_low n m v p (span m second) half (span_low n m (Run p) half k low) (span_low n m second half l other)

pub join_below : (n m : ℕ) (a b : Form) → n + n ≤ m → IsNormal m a → IsNormal m b → IsBelow m n a → IsBelow m n b → IsBelow m n (join m a b)
unfolding join
join_below n m a b half k l low other v = elim (cases_Bool (is_within m b a)) [
  | inl first ↦ rw first (low v)
  | inr beyond ↦ rw beyond (elim (cases_Bool (is_within m a b)) [ inl second ↦ rw second (other v) | inr apart ↦ rw apart (apart_low n m v a b half k l low other) ])
]

-- ---- sets of some numbers

pub gather_below : (n m : ℕ) (xs : List ℕ) → n + n ≤ m → AreBelow n xs → IsBelow m n (gather m xs)
unfolding set_of
gather_below n m xs half below v =
    let low : AllLow n xs = all_low n xs below in
    let rises : Ascends 0 m (ascending xs) = Ascends-put_all m [] xs (λ w there. (let small = low w there in omega (arith, small, half))) tt in
    elim (cases_Bool (nat_le (length (ascending xs)) 16)) [
      | inl few ↦ rw few (ascending_low n v xs low)
      | inr many ↦ rw many (
          let more : 16 < length (ascending xs) = leb-false (length (ascending xs)) 16 many in
          make_below n m (hull m (ascending xs)).base (hull m (ascending xs)).stride (hull m (ascending xs)).count
          (hull_low n m (ascending xs) half (omega arith) (λ w there. low w (in_ascending w xs there)) rises) (omega arith) v)
    ]
