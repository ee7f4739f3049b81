-- Ranges: how one is put among others, and what they have then.
use Rattle.std.proofs.Common.{◌≡◌, ℕ, zero, suc, min, max, ◌+◌, ◌-◌, ◌<◌, ◌≤◌, ◌||◌, ◌++◌, Bool, true, false, List, [], ◌∷◌, length, get_or, take, drop, cond, refl, sym, ap, ◌∙◌, subst, inl, inr, arith}
use Rattle.std.specs.Prelude.{nat_le, nat_lt}
use Rattle.std.proofs.lemmas.Bool.{and_from, and_parts, or_left, or_right, or_cases, cond_both, cond-true, cond-false, cases_Bool, cases_lt, leb-true, leb-false, ltb-true, ltb-false, lt-ltb, le-ltb, le-leb, lt-leb, and_left, and_right}
use Rattle.std.proofs.lemmas.Bool.Decides.{nat_tests}
use Rattle.std.proofs.lemmas.List.{drop_more}
use Rattle.irq_frames.specs.Ranges.{AreRanges, EachReaches, lies_in, lies_in_one, has_address, ranges_within, ends_below, with_range, united}

-- LYING IN ANOTHER

pub lies_from : (x y : ℕ × ℕ) → y.0 ≤ x.0 → x.1 ≤ y.1 → lies_in x y ≡ true
lies_from x y h k = and_from (nat_le y.0 x.0) (nat_le x.1 y.1) (le-leb y.0 x.0 h) (le-leb x.1 y.1 k)

pub lies_low : (x y : ℕ × ℕ) → lies_in x y ≡ true → y.0 ≤ x.0
lies_low x y h = leb-true y.0 x.0 (and_parts (nat_le y.0 x.0) (nat_le x.1 y.1) h).0

pub lies_high : (x y : ℕ × ℕ) → lies_in x y ≡ true → x.1 ≤ y.1
lies_high x y h = leb-true x.1 y.1 (and_parts (nat_le y.0 x.0) (nat_le x.1 y.1) h).1

pub one_along : (x y : ℕ × ℕ) (ranges : List (ℕ × ℕ)) → lies_in x y ≡ true → lies_in_one y ranges ≡ true → lies_in_one x ranges ≡ true
one_along x y [] h k = absurd (cc)
one_along x y (range ∷ ranges) h k = elim (or_cases (lies_in y range) (lies_in_one y ranges) k) [
  | inl here ↦ or_left (lies_in x range) (lies_in_one x ranges)
      (lies_from x range (omega (arith, lies_low x y h, lies_low y range here)) (omega (arith, lies_high x y h, lies_high y range here)))
  | inr rest ↦ or_right (lies_in x range) (lies_in_one x ranges) (one_along x y ranges h rest)
]

pub within_one : (x : ℕ × ℕ) (smaller larger : List (ℕ × ℕ)) → ranges_within smaller larger ≡ true
    → lies_in_one x smaller ≡ true → lies_in_one x larger ≡ true
within_one x [] larger h k = absurd (cc)
within_one x (range ∷ ranges) larger h k =
    let parts = and_parts (lies_in_one range larger) (ranges_within ranges larger) h in
    elim (or_cases (lies_in x range) (lies_in_one x ranges) k) [
      | inl here ↦ one_along x range larger here parts.0
      | inr rest ↦ within_one x ranges larger parts.1 rest
    ]

pub within_along : (a b c : List (ℕ × ℕ)) → ranges_within a b ≡ true → ranges_within b c ≡ true → ranges_within a c ≡ true
within_along [] b c h k = refl
within_along (range ∷ ranges) b c h k =
    let parts = and_parts (lies_in_one range b) (ranges_within ranges b) h in
    and_from (lies_in_one range c) (ranges_within ranges c) (within_one range b c k parts.0) (within_along ranges b c parts.1 k)

-- each of the first lies in one of the second, if each that lies in one of the first does
pub within_from : (a b : List (ℕ × ℕ)) → ((x : ℕ × ℕ) → lies_in_one x a ≡ true → lies_in_one x b ≡ true) → ranges_within a b ≡ true
within_from [] b each = refl
within_from (range ∷ ranges) b each = and_from (lies_in_one range b) (ranges_within ranges b)
    (each range (or_left (lies_in range range) (lies_in_one range ranges) (lies_from range range (omega arith) (omega arith))))
    (within_from ranges b (λ x h. each x (or_right (lies_in x range) (lies_in_one x ranges) h)))

pub within_itself : (a : List (ℕ × ℕ)) → ranges_within a a ≡ true
within_itself a = within_from a a (λ x h. h)

-- ONE MORE RANGE

pub ranges_lower : (low from top : ℕ) (ranges : List (ℕ × ℕ)) → low ≤ from → AreRanges from top ranges → AreRanges low top ranges
ranges_lower low from top [] h are = tt
ranges_lower low from top (range ∷ ranges) h (a, b, c, rest) = (omega (arith, h, a), b, c, rest)

pub with_range_form : (from top lo hi : ℕ) (ranges : List (ℕ × ℕ)) → from ≤ lo → lo ≤ hi → hi ≤ top
    → AreRanges from top ranges → AreRanges from top (with_range lo hi ranges)
unfolding with_range
with_range_form from top lo hi [] f o h are = (f, o, h, tt)
with_range_form from top lo hi (range ∷ ranges) f o h (a, b, d, rest) =
    cond_both (nat_lt (range.1 + 1) lo) (range ∷ with_range lo hi ranges)
    (cond (nat_lt (hi + 1) range.0) ((lo, hi) ∷ range ∷ ranges) (with_range (min lo range.0) (max hi range.1) ranges)) (AreRanges from top)
    (λ e. (a, b, d, with_range_form (range.1 + 2) top lo hi ranges (omega (arith, ltb-true (range.1 + 1) lo e)) o h rest))
    (λ e. cond_both (nat_lt (hi + 1) range.0) ((lo, hi) ∷ range ∷ ranges) (with_range (min lo range.0) (max hi range.1) ranges) (AreRanges from top)
    (λ g. (f, o, h, (omega (arith, ltb-true (hi + 1) range.0 g), b, d, rest)))
    (λ g. with_range_form from top (min lo range.0) (max hi range.1) ranges (omega (arith, f, a))
    (omega (arith, o)) (omega (arith, h, d))
    (ranges_lower from (range.1 + 2) top ranges (omega (arith, a, b)) rest)))

-- it lies in one of them
pub in_added : (x : ℕ × ℕ) (lo hi : ℕ) (ranges : List (ℕ × ℕ)) → lo ≤ x.0 → x.1 ≤ hi → lies_in_one x (with_range lo hi ranges) ≡ true
unfolding with_range
in_added x lo hi [] h k = or_left (lies_in x (lo, hi)) false (lies_from x (lo, hi) h k)
in_added x lo hi (range ∷ ranges) h k =
    cond_both (nat_lt (range.1 + 1) lo) (range ∷ with_range lo hi ranges)
    (cond (nat_lt (hi + 1) range.0) ((lo, hi) ∷ range ∷ ranges) (with_range (min lo range.0) (max hi range.1) ranges)) (λ all. lies_in_one x all ≡ true)
    (λ e. or_right (lies_in x range) (lies_in_one x (with_range lo hi ranges)) (in_added x lo hi ranges h k))
    (λ e. cond_both (nat_lt (hi + 1) range.0) ((lo, hi) ∷ range ∷ ranges) (with_range (min lo range.0) (max hi range.1) ranges) (λ all. lies_in_one x all ≡ true)
    (λ g. or_left (lies_in x (lo, hi)) (lies_in_one x (range ∷ ranges)) (lies_from x (lo, hi) h k))
    (λ g. in_added x (min lo range.0) (max hi range.1) ranges (omega (arith, h)) (omega (arith, k))))

-- and so do those that were there
pub in_others : (x : ℕ × ℕ) (lo hi : ℕ) (ranges : List (ℕ × ℕ)) → lies_in_one x ranges ≡ true
    → lies_in_one x (with_range lo hi ranges) ≡ true
unfolding with_range
in_others x lo hi [] h = absurd (cc)
in_others x lo hi (range ∷ ranges) h =
    cond_both (nat_lt (range.1 + 1) lo) (range ∷ with_range lo hi ranges)
    (cond (nat_lt (hi + 1) range.0) ((lo, hi) ∷ range ∷ ranges) (with_range (min lo range.0) (max hi range.1) ranges)) (λ all. lies_in_one x all ≡ true)
    (λ e. elim (or_cases (lies_in x range) (lies_in_one x ranges) h) [
      | inl here ↦ or_left (lies_in x range) (lies_in_one x (with_range lo hi ranges)) here
      | inr rest ↦ or_right (lies_in x range) (lies_in_one x (with_range lo hi ranges)) (in_others x lo hi ranges rest)
    ])
    (λ e. cond_both (nat_lt (hi + 1) range.0) ((lo, hi) ∷ range ∷ ranges) (with_range (min lo range.0) (max hi range.1) ranges) (λ all. lies_in_one x all ≡ true)
    (λ g. or_right (lies_in x (lo, hi)) (lies_in_one x (range ∷ ranges)) h)
    (λ g. elim (or_cases (lies_in x range) (lies_in_one x ranges) h) [
      | inl here ↦ in_added x (min lo range.0) (max hi range.1) ranges
          (omega (arith, lies_low x range here)) (omega (arith, lies_high x range here))
      | inr rest ↦ in_others x (min lo range.0) (max hi range.1) ranges rest
    ]))

-- nothing else: an address in the range that takes up another one is in one of both
merged : (at lo hi low high : ℕ) → lo ≤ high + 1 → low ≤ hi + 1 → lo ≤ hi → low ≤ high
    → lies_in (at, at) (min lo low, max hi high) ≡ (lies_in (at, at) (low, high) || lies_in (at, at) (lo, hi))
merged at lo hi low high h k o p = elim (cases_lt low lo) [
  | inl before ↦
      let first : min lo low ≡ low = omega arith in
      elim (cases_lt hi high) [
        | inl short ↦ let last : max hi high ≡ high = omega arith in rw (first, last) (grind (arith, nat_tests))
        | inr long ↦ let last : max hi high ≡ hi = omega arith in rw (first, last) (grind (arith, nat_tests))
      ]
  | inr behind ↦
      let first : min lo low ≡ lo = omega arith in
      elim (cases_lt hi high) [
        | inl short ↦ let last : max hi high ≡ high = omega arith in rw (first, last) (grind (arith, nat_tests))
        | inr long ↦ let last : max hi high ≡ hi = omega arith in rw (first, last) (grind (arith, nat_tests))
      ]
]

or_swap : (a b c : Bool) → (a || (b || c)) ≡ ((a || b) || c)
or_swap true b c = refl
or_swap false b c = refl

or_turn : (a b : Bool) → (a || b) ≡ (b || a)
or_turn true true = refl
or_turn true false = refl
or_turn false true = refl
or_turn false false = refl

pub added_has : (from top at lo hi : ℕ) (ranges : List (ℕ × ℕ)) → lo ≤ hi → AreRanges from top ranges
    → has_address (with_range lo hi ranges) at ≡ (has_address ranges at || lies_in (at, at) (lo, hi))
unfolding with_range
added_has from top at lo hi [] o are = or_turn (lies_in (at, at) (lo, hi)) false
added_has from top at lo hi (range ∷ ranges) o (a, b, d, rest) =
    let here = lies_in (at, at) range in
    let there = lies_in_one (at, at) ranges in
    let new = lies_in (at, at) (lo, hi) in
    cond_both (nat_lt (range.1 + 1) lo) (range ∷ with_range lo hi ranges)
    (cond (nat_lt (hi + 1) range.0) ((lo, hi) ∷ range ∷ ranges) (with_range (min lo range.0) (max hi range.1) ranges)) (λ all. has_address all at ≡ ((here || there) || new))
    (λ e. ap (λ others. here || others) (added_has (range.1 + 2) top at lo hi ranges o rest) ∙ or_swap here there new)
    (λ e. cond_both (nat_lt (hi + 1) range.0) ((lo, hi) ∷ range ∷ ranges) (with_range (min lo range.0) (max hi range.1) ranges) (λ all. has_address all at ≡ ((here || there) || new))
    (λ g. or_turn new (here || there))
    (λ g. let both = merged at lo hi range.0 range.1 (ltb-false (range.1 + 1) lo e) (ltb-false (hi + 1) range.0 g) o b in
    added_has (range.1 + 2) top at (min lo range.0) (max hi range.1) ranges (omega (arith)) rest
    ∙ ap (λ others. there || others) both ∙ or_swap there here new ∙ ap (λ all. all || new) (or_turn there here)))

-- TWO LISTS OF RANGES

pub united_form : (lo hi : ℕ) (ranges others : List (ℕ × ℕ)) → AreRanges lo hi ranges → (from : ℕ) → lo ≤ from
    → AreRanges from hi others → AreRanges lo hi (united ranges others)
united_form lo hi ranges [] are from h these = are
united_form lo hi ranges (range ∷ others) are from h (a, b, d, rest) =
    united_form lo hi (with_range range.0 range.1 ranges) others
    (with_range_form lo hi range.0 range.1 ranges (omega (arith, h, a)) b d are) (range.1 + 2) (omega (arith, h, a, b)) rest

in_united_first : (x : ℕ × ℕ) (ranges others : List (ℕ × ℕ)) → lies_in_one x ranges ≡ true → lies_in_one x (united ranges others) ≡ true
in_united_first x ranges [] h = h
in_united_first x ranges (range ∷ others) h = in_united_first x (with_range range.0 range.1 ranges) others (in_others x range.0 range.1 ranges h)

in_united_second : (x : ℕ × ℕ) (ranges others : List (ℕ × ℕ)) → lies_in_one x others ≡ true → lies_in_one x (united ranges others) ≡ true
in_united_second x ranges [] h = absurd (cc)
in_united_second x ranges (range ∷ others) h = elim (or_cases (lies_in x range) (lies_in_one x others) h) [
  | inl here ↦ in_united_first x (with_range range.0 range.1 ranges) others (in_added x range.0 range.1 ranges (lies_low x range here) (lies_high x range here))
  | inr rest ↦ in_united_second x (with_range range.0 range.1 ranges) others rest
]

pub within_united_first : (a b : List (ℕ × ℕ)) → ranges_within a (united a b) ≡ true
within_united_first a b = within_from a (united a b) (λ x. in_united_first x a b)

pub within_united_second : (a b : List (ℕ × ℕ)) → ranges_within b (united a b) ≡ true
within_united_second a b = within_from b (united a b) (λ x. in_united_second x a b)

-- all of them lie in one range
pub within_whole : (from lo hi : ℕ) (ranges : List (ℕ × ℕ)) → lo ≤ from → AreRanges from hi ranges
    → ranges_within ranges ((lo, hi) ∷ []) ≡ true
within_whole from lo hi [] h are = refl
within_whole from lo hi (range ∷ ranges) h (a, b, d, rest) = and_from (lies_in range (lo, hi) || false) (ranges_within ranges ((lo, hi) ∷ []))
    (or_left (lies_in range (lo, hi)) false (lies_from range (lo, hi) (omega (arith, h, a)) d))
    (within_whole (range.1 + 2) lo hi ranges (omega (arith, h, a, b)) rest)

-- FINDING A RANGE

none_above : (x : ℕ × ℕ) (from top : ℕ) (ranges : List (ℕ × ℕ)) → x.0 < from → AreRanges from top ranges → lies_in_one x ranges ≡ false
none_above x from top [] lt are = refl
none_above x from top (range ∷ ranges) lt (a, b, d, rest) =
    let past : nat_le range.0 x.0 ≡ false = lt-leb range.0 x.0 (omega (arith, a, lt)) in
    let here : lies_in x range ≡ false = and_left (nat_le range.0 x.0) (nat_le x.1 range.1) past in
    let others : lies_in_one x ranges ≡ false = none_above x (range.1 + 2) top ranges (omega (arith, a, b, lt)) rest in
    ap (λ first. first || lies_in_one x ranges) here ∙ others

-- the first one that doesn't end in front of it decides
pub found_there : (x : ℕ × ℕ) (from top : ℕ) (ranges : List (ℕ × ℕ)) → AreRanges from top ranges → ends_below ranges x.1 < length ranges
    → lies_in_one x ranges ≡ nat_le (get_or ranges (ends_below ranges x.1) (0, 0)).0 x.0
found_there x from top [] are lt = absurd (omega arith)
found_there x from top (range ∷ ranges) (a, b, d, rest) lt = elim (cases_Bool (nat_lt range.1 x.1)) [
  | inl before ↦
      let here : lies_in x range ≡ false = and_right (nat_le range.0 x.0) (nat_le x.1 range.1) (lt-leb x.1 range.1 (ltb-true range.1 x.1 before)) in
      let next : ends_below (range ∷ ranges) x.1 ≡ suc (ends_below ranges x.1) = cond-true (nat_lt range.1 x.1) (suc (ends_below ranges x.1)) 0 before in
      ap (λ first. first || lies_in_one x ranges) here
      ∙ found_there x (range.1 + 2) top ranges rest (omega (arith, lt, next))
      ∙ ap (λ i. nat_le (get_or (range ∷ ranges) i (0, 0)).0 x.0) (sym next)
  | inr reaches ↦
      let first : ends_below (range ∷ ranges) x.1 ≡ 0 = cond-false (nat_lt range.1 x.1) (suc (ends_below ranges x.1)) 0 reaches in
      let ends : nat_le x.1 range.1 ≡ true = le-leb x.1 range.1 (ltb-false range.1 x.1 reaches) in
      elim (cases_Bool (nat_le range.0 x.0)) [
        | inl low ↦ or_left (lies_in x range) (lies_in_one x ranges) (and_from (nat_le range.0 x.0) (nat_le x.1 range.1) low ends)
            ∙ sym low ∙ ap (λ i. nat_le (get_or (range ∷ ranges) i (0, 0)).0 x.0) (sym first)
        | inr high ↦ ap (λ b. b || lies_in_one x ranges) (and_left (nat_le range.0 x.0) (nat_le x.1 range.1) high)
            ∙ none_above x (range.1 + 2) top ranges (omega (arith, leb-false range.0 x.0 high, b)) rest
            ∙ sym high ∙ ap (λ i. nat_le (get_or (range ∷ ranges) i (0, 0)).0 x.0) (sym first)
      ]
]

pub found_nowhere : (x : ℕ × ℕ) (ranges : List (ℕ × ℕ)) → length ranges ≤ ends_below ranges x.1 → lies_in_one x ranges ≡ false
found_nowhere x [] le = refl
found_nowhere x (range ∷ ranges) le = elim (cases_Bool (nat_lt range.1 x.1)) [
  | inl before ↦
      let here : lies_in x range ≡ false = and_right (nat_le range.0 x.0) (nat_le x.1 range.1) (lt-leb x.1 range.1 (ltb-true range.1 x.1 before)) in
      let next : ends_below (range ∷ ranges) x.1 ≡ suc (ends_below ranges x.1) = cond-true (nat_lt range.1 x.1) (suc (ends_below ranges x.1)) 0 before in
      ap (λ first. first || lies_in_one x ranges) here ∙ found_nowhere x ranges (omega (arith, le, next))
  | inr reaches ↦
      let first : ends_below (range ∷ ranges) x.1 ≡ 0 = cond-false (nat_lt range.1 x.1) (suc (ends_below ranges x.1)) 0 reaches in
      absurd (omega (arith, first, le))
]

ends_least : (from top : ℕ) (ranges : List (ℕ × ℕ)) (j : ℕ) (d : ℕ × ℕ) → AreRanges from top ranges → j < length ranges
    → from ≤ (get_or ranges j d).1
ends_least from top [] j d are lt = absurd (omega arith)
ends_least from top (range ∷ ranges) zero d (a, b, e, rest) lt = omega (arith, a, b)
ends_least from top (range ∷ ranges) (suc j) d (a, b, e, rest) lt =
    let least = ends_least (range.1 + 2) top ranges j d rest (omega arith) in omega (arith, a, b, least)

pub ends_rise : (from top : ℕ) (ranges : List (ℕ × ℕ)) → AreRanges from top ranges
    → (i j : ℕ) (d : ℕ × ℕ) → i ≤ j → j < length ranges → (get_or ranges i d).1 ≤ (get_or ranges j d).1
ends_rise from top [] are i j d le lt = absurd (omega arith)
ends_rise from top (range ∷ ranges) are zero zero d le lt = omega arith
ends_rise from top (range ∷ ranges) (a, b, e, rest) zero (suc j) d le lt =
    let least = ends_least (range.1 + 2) top ranges j d rest (omega arith) in omega (arith, least)
ends_rise from top (range ∷ ranges) are (suc i) zero d le lt = absurd (omega arith)
ends_rise from top (range ∷ ranges) (a, b, e, rest) (suc i) (suc j) d le lt =
    ends_rise (range.1 + 2) top ranges rest i j d (omega arith) (omega arith)

pub below_is : (ranges : List (ℕ × ℕ)) (at k : ℕ) → k ≤ length ranges
    → ((i : ℕ) (d : ℕ × ℕ) → i < k → (get_or ranges i d).1 < at)
    → ((i : ℕ) (d : ℕ × ℕ) → k ≤ i → i < length ranges → at ≤ (get_or ranges i d).1)
    → k ≡ ends_below ranges at
below_is [] at k le low high = omega arith
below_is (range ∷ ranges) at zero le low high =
    let first : at ≤ range.1 = high 0 range (omega arith) (omega arith) in grind (arith, nat_tests)
below_is (range ∷ ranges) at (suc k) le low high =
    let first : range.1 < at = low 0 range (omega arith) in
    let rest : k ≡ ends_below ranges at = below_is ranges at k (omega arith) (λ i d h. low (suc i) d (omega arith)) (λ i d h l. high (suc i) d (omega arith) (omega arith)) in
    grind (arith, nat_tests)

each_behind : (from top at : ℕ) (ranges : List (ℕ × ℕ)) → at ≤ from → AreRanges from top ranges → EachReaches at ranges
each_behind from top at [] h are = tt
each_behind from top at (range ∷ ranges) h (a, b, e, rest) = (omega (arith, h, a, b), each_behind (range.1 + 2) top at ranges (omega (arith, h, a, b)) rest)

-- the ranges in front of those that reach an address, and these
pub reaching : (from top at lo : ℕ) (ranges : List (ℕ × ℕ)) → lo ≤ at + 1 → AreRanges from top ranges
    → EachReaches lo (drop (ends_below ranges at) ranges)
reaching from top at lo [] h are = tt
reaching from top at lo (range ∷ ranges) h (a, b, e, rest) = elim (cases_Bool (nat_lt range.1 at)) [
  | inl before ↦
      subst (λ i. EachReaches lo (drop i (range ∷ ranges))) (sym (cond-true (nat_lt range.1 at) (suc (ends_below ranges at)) 0 before))
      (reaching (range.1 + 2) top at lo ranges h rest)
  | inr reaches ↦
      let le : at ≤ range.1 = ltb-false range.1 at reaches in
      subst (λ i. EachReaches lo (drop i (range ∷ ranges))) (sym (cond-false (nat_lt range.1 at) (suc (ends_below ranges at)) 0 reaches))
      (omega arith, each_behind (range.1 + 2) top lo ranges (omega arith) rest)
]

reaches_less : (at less : ℕ) (ranges : List (ℕ × ℕ)) → less ≤ at → EachReaches at ranges → EachReaches less ranges
reaches_less at less [] h each = tt
reaches_less at less (range ∷ ranges) h (a, rest) = (omega (arith, h, a), reaches_less at less ranges h rest)

take_front : (i : ℕ) (xs ys : List (ℕ × ℕ)) → i ≤ length xs → take i (take i xs ++ ys) ≡ take i xs
take_front zero xs ys le = refl
take_front (suc i) [] ys le = absurd (omega arith)
take_front (suc i) (x ∷ xs) ys le = ap (λ rest. x ∷ rest) (take_front i xs ys (omega arith))

drop_front : (i : ℕ) (xs ys : List (ℕ × ℕ)) → i ≤ length xs → drop i (take i xs ++ ys) ≡ ys
drop_front zero xs ys le = refl
drop_front (suc i) [] ys le = absurd (omega arith)
drop_front (suc i) (x ∷ xs) ys le = drop_front i xs ys (omega arith)

-- one more is taken up
pub put_step : (items removed : List (ℕ × ℕ)) (index low high : ℕ) (range : ℕ × ℕ) → index < length items → range ≡ get_or items index range
    → removed ≡ take index items ++ drop (index + 1) items → EachReaches low (drop index items) → range.0 ≤ high + 1
    → (take index removed ≡ take index items) × EachReaches (min low range.0) (drop index removed)
    × (with_range (min low range.0) (max high range.1) (drop index removed) ≡ with_range low high (drop index items))
unfolding with_range
put_step items removed index low high range lt is gone reaches near =
    let rest = drop (index + 1) items in
    let these : drop index items ≡ range ∷ rest = rw (drop_more items index range lt, sym is) refl in
    let left : drop index removed ≡ rest = ap (drop index) gone ∙ drop_front index items rest (omega arith) in
    let heads : EachReaches low (range ∷ rest) = subst (EachReaches low) these reaches in
    let first : nat_lt (range.1 + 1) low ≡ false = le-ltb (range.1 + 1) low heads.0 in
    let second : nat_lt (high + 1) range.0 ≡ false = le-ltb (high + 1) range.0 near in
    let taken : with_range low high (range ∷ rest) ≡ with_range (min low range.0) (max high range.1) rest =
    cond-false (nat_lt (range.1 + 1) low) (range ∷ with_range low high rest) (cond (nat_lt (high + 1) range.0) ((low, high) ∷ range ∷ rest) (with_range (min low range.0) (max high range.1) rest)) first
    ∙ cond-false (nat_lt (high + 1) range.0) ((low, high) ∷ range ∷ rest) (with_range (min low range.0) (max high range.1) rest) second in (
      ap (take index) gone ∙ take_front index items rest (omega arith),
      subst (EachReaches (min low range.0)) (sym left) (reaches_less low (min low range.0) rest (omega arith) heads.1),
      ap (with_range (min low range.0) (max high range.1)) left ∙ sym taken ∙ ap (with_range low high) (sym these),
    )

-- the ranges in front of those that reach it stay in front
skipped : (lo hi : ℕ) (ranges : List (ℕ × ℕ))
    → take (ends_below ranges (lo - 1)) ranges ++ with_range lo hi (drop (ends_below ranges (lo - 1)) ranges) ≡ with_range lo hi ranges
unfolding with_range
skipped lo hi [] = refl
skipped lo hi (range ∷ ranges) = elim (cases_Bool (nat_lt range.1 (lo - 1))) [
  | inl before ↦
      let far : range.1 < lo - 1 = ltb-true range.1 (lo - 1) before in
      let next : ends_below (range ∷ ranges) (lo - 1) ≡ suc (ends_below ranges (lo - 1)) = cond-true (nat_lt range.1 (lo - 1)) (suc (ends_below ranges (lo - 1))) 0 before in
      let past : nat_lt (range.1 + 1) lo ≡ true = lt-ltb (range.1 + 1) lo (omega arith) in
      ap (λ i. take i (range ∷ ranges) ++ with_range lo hi (drop i (range ∷ ranges))) next
      ∙ ap (λ rest. range ∷ rest) (skipped lo hi ranges)
      ∙ sym (cond-true (nat_lt (range.1 + 1) lo) (range ∷ with_range lo hi ranges)
      (cond (nat_lt (hi + 1) range.0) ((lo, hi) ∷ range ∷ ranges) (with_range (min lo range.0) (max hi range.1) ranges)) past)
  | inr reaches ↦
      let first : ends_below (range ∷ ranges) (lo - 1) ≡ 0 = cond-false (nat_lt range.1 (lo - 1)) (suc (ends_below ranges (lo - 1))) 0 reaches in
      ap (λ i. take i (range ∷ ranges) ++ with_range lo hi (drop i (range ∷ ranges))) first
]

pub added_items : (before reserved viewed after : List (ℕ × ℕ)) (index at lo hi : ℕ) → reserved ≡ before
    → viewed ≡ reserved → index ≡ ends_below viewed at → at ≡ lo - 1
    → after ≡ take index reserved ++ with_range lo hi (drop index reserved) → after ≡ with_range lo hi before
added_items before reserved viewed after index at lo hi same seen place under put =
    let place_is : index ≡ ends_below before (lo - 1) = place ∙ ap (λ ranges. ends_below ranges at) (seen ∙ same) ∙ ap (ends_below before) under in
    put ∙ ap (λ ranges. take index ranges ++ with_range lo hi (drop index ranges)) same
    ∙ ap (λ i. take i before ++ with_range lo hi (drop i before)) place_is ∙ skipped lo hi before

pub each_goes_up : (from top : ℕ) (ranges : List (ℕ × ℕ)) (i : ℕ) (d : ℕ × ℕ) → AreRanges from top ranges
    → i < length ranges → (get_or ranges i d).0 ≤ (get_or ranges i d).1
each_goes_up from top [] i d are lt = absurd (omega arith)
each_goes_up from top (range ∷ ranges) zero d (a, b, e, rest) lt = b
each_goes_up from top (range ∷ ranges) (suc i) d (a, b, e, rest) lt = each_goes_up (range.1 + 2) top ranges i d rest (omega arith)
