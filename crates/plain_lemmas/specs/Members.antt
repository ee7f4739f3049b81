-- Membership in a list, element by element, and in what is made of each.
use Rattle.std.proofs.Common.{◌≡◌, ℕ, ◌+◌, ◌<◌, Bool, true, false, List, [], ◌∷◌, ◌++◌, cond, refl, ap, sym, ◌∙◌, subst, inl, inr, arith}
use Rattle.std.specs.Prelude.{◌⊎◌, Contains, map}
use Rattle.std.specs.List.{filter, flat_map, range_with_len}
use Rattle.std.specs.Map.{values_of}
use Rattle.std.proofs.lemmas.Bool.{cases_Bool, cond-true, cond-false}
use Rattle.std.proofs.lemmas.List.Elements.{Contains-append_left, Contains-append_right, Contains-push, Contains-push_cases, Contains-append_cases}
use Rattle.std.proofs.lemmas.List.{append-nil, map-id}
use Rattle.std.proofs.lemmas.List.FromFn.{filter_of_map_range_with_len_more, get_or-range_with_len, length-range_with_len, map-range_with_len_more}

pub in_none : {X : Type 0} (x : X) → Contains [] x → ⊥
in_none x h = absurd (omega (arith, h.1))

pub in_cons : {X : Type 0} (first : X) (xs : List X) (x : X) → Contains (first ∷ xs) x → (first ≡ x) ⊎ Contains xs x
in_cons first xs x h = elim (Contains-append_cases (first ∷ []) xs x h) [
  | inl one ↦ elim (Contains-push_cases [] first x one) [ inl none ↦ absurd (in_none x none) | inr same ↦ inl same ]
  | inr rest ↦ inr rest
]

pub in_first : {X : Type 0} (x : X) (xs : List X) → Contains (x ∷ xs) x
in_first x xs = Contains-append_left (x ∷ []) xs x (Contains-push [] x)

pub in_rest : {X : Type 0} (first : X) (xs : List X) (x : X) → Contains xs x → Contains (first ∷ xs) x
in_rest first xs x h = Contains-append_right (first ∷ []) xs x h

pub in_one : {X : Type 0} (only x : X) → Contains (only ∷ []) x → only ≡ x
in_one only x h = elim (in_cons only [] x h) [ inl same ↦ same | inr none ↦ absurd (in_none x none) ]

-- WHAT A FUNCTION MAKES OF EACH

pub in_map : {X Y : Type 0} (f : X → Y) (xs : List X) (x : X) → Contains xs x → Contains (map f xs) (f x)
in_map f [] x h = absurd (in_none x h)
in_map f (first ∷ xs) x h = elim (in_cons first xs x h) [
  | inl same ↦ subst (λ y. Contains (f first ∷ map f xs) (f y)) same (in_first (f first) (map f xs))
  | inr rest ↦ in_rest (f first) (map f xs) (f x) (in_map f xs x rest)
]

pub from_map : {X Y : Type 0} (f : X → Y) (xs : List X) (y : Y) → Contains (map f xs) y → (x : X) × Contains xs x × (f x ≡ y)
from_map f [] y h = absurd (in_none y h)
from_map f (first ∷ xs) y h = elim (in_cons (f first) (map f xs) y h) [
  | inl same ↦ (first, in_first first xs, same)
  | inr rest ↦ let (x, there, is) = from_map f xs y rest in (x, in_rest first xs x there, is)
]

pub in_flat_map : {X Y : Type 0} (f : X → List Y) (xs : List X) (x : X) (y : Y) → Contains xs x → Contains (f x) y
    → Contains (flat_map f xs) y
in_flat_map f [] x y h g = absurd (in_none x h)
in_flat_map f (first ∷ xs) x y h g = elim (in_cons first xs x h) [
  | inl same ↦ Contains-append_left (f first) (flat_map f xs) y (subst (λ z. Contains (f z) y) (sym same) g)
  | inr rest ↦ Contains-append_right (f first) (flat_map f xs) y (in_flat_map f xs x y rest g)
]

pub from_flat_map : {X Y : Type 0} (f : X → List Y) (xs : List X) (y : Y) → Contains (flat_map f xs) y
    → (x : X) × Contains xs x × Contains (f x) y
from_flat_map f [] y h = absurd (in_none y h)
from_flat_map f (first ∷ xs) y h = elim (Contains-append_cases (f first) (flat_map f xs) y h) [
  | inl here ↦ (first, in_first first xs, here)
  | inr rest ↦ let (x, there, is) = from_flat_map f xs y rest in (x, in_rest first xs x there, is)
]

pub from_values : {K X : Type 0} (pairs : List (K × X)) (value : X) → Contains (values_of pairs) value
    → (key : K) × Contains pairs (key, value)
from_values [] value h = absurd (in_none value h)
from_values {X = X} (pair ∷ pairs) value h = elim (in_cons pair.1 (values_of pairs) value h) [
  | inl same ↦ (pair.0, subst (λ (v : X). Contains (pair ∷ pairs) (pair.0, v)) same (in_first pair pairs))
  | inr rest ↦ let (key, there) = from_values pairs value rest in (key, in_rest pair pairs (key, value) there)
]

-- FILTERS AND RANGES

pub in_filter : {X : Type 0} (test : X → Bool) (xs : List X) (x : X) → Contains xs x → test x ≡ true → Contains (filter test xs) x
in_filter test [] x h passes = absurd (in_none x h)
in_filter test (first ∷ xs) x h passes = elim (cases_Bool (test first)) [
  | inl kept ↦ subst (λ l. Contains l x) (sym (cond-true (test first) (first ∷ filter test xs) (filter test xs) kept)) (elim (in_cons first xs x h) [
    | inl same ↦ subst (λ y. Contains (y ∷ filter test xs) x) (sym same) (in_first x (filter test xs))
    | inr rest ↦ in_rest first (filter test xs) x (in_filter test xs x rest passes)
  ])
  | inr dropped ↦ subst (λ l. Contains l x) (sym (cond-false (test first) (first ∷ filter test xs) (filter test xs) dropped)) (elim (in_cons first xs x h) [
    | inl same ↦ let bad : true ≡ false = sym passes ∙ ap test (sym same) ∙ dropped in absurd (cc)
    | inr rest ↦ in_filter test xs x rest passes
  ])
]

pub record Passes {X : Type 0} (test : X → Bool) (xs : List X) (x : X) : Type 0 where
  pub there : Contains xs x
  pub passes : test x ≡ true

pub from_filter : {X : Type 0} (test : X → Bool) (xs : List X) (x : X) → Contains (filter test xs) x → Passes test xs x
from_filter test [] x h = absurd (in_none x h)
from_filter {X} test (first ∷ xs) x h =
    let on : Passes test xs x → Passes test (first ∷ xs) x = λ found. record { there = in_rest first xs x found.there; passes = found.passes } in
    elim (cases_Bool (test first)) [
      | inr other ↦ on (from_filter test xs x (rw other at h))
      | inl here ↦
          let kept = rw here at h in
          elim (in_cons first (filter test xs) x kept) [
            | inl same ↦ record { there = subst (Contains (first ∷ xs)) same (in_first first xs); passes = subst (λ y. test y ≡ true) same here }
            | inr rest ↦ on (from_filter test xs x rest)
          ]
    ]

pub in_range : (count x : ℕ) → Contains (range_with_len 0 count) x → x < count
in_range count x h =
    let inside : h.0 < count = rw (length-range_with_len 0 count) at h.1 in
    let is : x ≡ 0 + h.0 = sym h.2 ∙ get_or-range_with_len 0 count h.0 x inside in
    omega (arith, is, inside)

-- one number more

pub range_more : (n : ℕ) → range_with_len 0 (n + 1) ≡ range_with_len 0 n ++ n ∷ []
range_more n = simp map-id at (map-range_with_len_more (λ x. x) 0 n n (omega arith))

pub range_filtered : (test : ℕ → Bool) (n : ℕ)
    → filter test (range_with_len 0 (n + 1)) ≡ filter test (range_with_len 0 n) ++ cond (test n) (n ∷ []) []
range_filtered test n = simp map-id at (filter_of_map_range_with_len_more test (λ x. x) 0 n n (omega arith))

pub range_taken : (test : ℕ → Bool) (n : ℕ) → true ≡ test n
    → filter test (range_with_len 0 (n + 1)) ≡ filter test (range_with_len 0 n) ++ n ∷ []
range_taken test n passes = rw (range_filtered test n, ← passes) refl

pub range_left : (test : ℕ → Bool) (n : ℕ) → false ≡ test n
    → filter test (range_with_len 0 (n + 1)) ≡ filter test (range_with_len 0 n)
range_left test n fails = rw (range_filtered test n, ← fails) (append-nil (filter test (range_with_len 0 n)))
