-- What stands at the places of lists.
use Prim.Native.Nat.{zero, suc}
use Rattle.std.proofs.Common.{◌≡◌, ℕ, ◌+◌, ◌<◌, ◌≤◌, ◌==◌, Bool, true, false, cond, drop, Option, None, Some, List, [], ◌∷◌, ◌++◌, get_or, length, refl, replicate, set, take, ap, sym, ◌∙◌, subst, inl, inr, arith, zero-add}
use Rattle.std.specs.Prelude.{◌⊎◌, Contains, Err, IfOk, Ok, OnOk, Result, count_by, slice_get}
use Rattle.std.proofs.lemmas.Bool.{cases_eq, cases_lt}
use Rattle.std.proofs.lemmas.Bool.Decides.{nat_tests}
use Rattle.std.proofs.lemmas.Option.{get_or_from_slice_get, slice_get-get_or, slice_get_within}
use Rattle.std.proofs.lemmas.List.Sums.{sum_by-cons, sum_by-set}
use Rattle.plain_lemmas.specs.Cases.{same_Some}

pub nothing : {X : Type 0} (xs : List X) → length xs ≡ 0 → xs ≡ []
nothing [] none = refl
nothing (x ∷ xs) none = absurd (omega (arith, none))

-- whether a list is said to be empty
pub some_left : {X : Type 0} (xs : List X) (n : ℕ) (b : Bool) → n ≡ length xs → b ≡ (n == 0) → b ≡ false → 0 < length xs
some_left xs n b same is some = let tested : (n == 0) ≡ false = sym is ∙ some in grind (arith, nat_tests)

pub none_left : {X : Type 0} (xs : List X) (n : ℕ) (b : Bool) → n ≡ length xs → b ≡ (n == 0) → b ≡ true → xs ≡ []
none_left xs n b same is none = let tested : (n == 0) ≡ true = sym is ∙ none in nothing xs (grind (arith, nat_tests))

-- nothing else is a copy of none
pub none_only : {X : Type 0} (P : Option X → Type 0) → ((x : X) → P (Some x) → ⊥) → (o : Option X) → P o → o ≡ None
none_only P other None h = refl
none_only P other (Some x) h = absurd (other x h)

-- RESULTS

pub ok_then : {T E : Type 0} (r : Result T E) {P Q : Type 0} → OnOk r P → (P → Q) → OnOk r Q
ok_then (Ok x) h then' = then' h
ok_then (Err e) h then' = tt

pub if_ok_then : {T E : Type 0} (r : Result T E) {P Q : T → Type 0} → IfOk r P → ((x : T) → P x → Q x) → IfOk r Q
if_ok_then (Ok x) h then' = then' x h
if_ok_then (Err e) h then' = tt

-- MEMBERS

pub at_of : {X : Type 0} (xs : List X) (x : X) → Contains xs x → (k : ℕ) × (slice_get xs k ≡ Some x)
at_of xs x (k, small, is) = (k, slice_get-get_or xs k x small ∙ ap (λ y. Some y) is)

pub in_of : {X : Type 0} (xs : List X) (k : ℕ) (x : X) → slice_get xs k ≡ Some x → Contains xs x
in_of xs k x is = (k, slice_get_within xs k x is, get_or_from_slice_get xs k x x is)

-- what is read at a place
pub read_at : {X : Type 0} (xs : List X) (k : ℕ) (x : X) → k < length xs → x ≡ get_or xs k x → slice_get xs k ≡ Some x
read_at xs k x small is = slice_get-get_or xs k x small ∙ ap (λ y. Some y) (sym is)

-- what stands at a place, whatever stands for nothing
pub value_at : {X : Type 0} (xs : List X) (k : ℕ) (d x : X) → k < length xs → get_or xs k d ≡ x → slice_get xs k ≡ Some x
value_at xs k d x small is = slice_get-get_or xs k d small ∙ ap (λ y. Some y) is

-- one place has one element
pub one_at : {X : Type 0} (xs : List X) (k : ℕ) (x y : X) → slice_get xs k ≡ Some x → slice_get xs k ≡ Some y → x ≡ y
one_at xs k x y is also = same_Some (sym is ∙ also)

-- each place has an element
pub some_at : {X : Type 0} (xs : List X) (k : ℕ) → k < length xs → (x : X) × (slice_get xs k ≡ Some x)
some_at [] k small = absurd (omega arith)
some_at (x ∷ xs) zero small = (x, refl)
some_at (x ∷ xs) (suc k) small = some_at xs k (omega arith)

-- A WRITE

pub get_set : {X : Type 0} (xs : List X) (i : ℕ) (x : X) → i < length xs → slice_get (set xs i x) i ≡ Some x
get_set [] i x small = absurd (omega arith)
get_set (y ∷ xs) zero x small = refl
get_set (y ∷ xs) (suc i) x small = get_set xs i x (omega arith)

pub get_set_other : {X : Type 0} (xs : List X) (i j : ℕ) (x : X) → (j ≡ i → ⊥) → slice_get (set xs i x) j ≡ slice_get xs j
get_set_other [] i j x other = refl
get_set_other (y ∷ xs) zero zero x other = absurd (other refl)
get_set_other (y ∷ xs) zero (suc j) x other = refl
get_set_other (y ∷ xs) (suc i) zero x other = refl
get_set_other (y ∷ xs) (suc i) (suc j) x other = get_set_other xs i j x (λ same. other (ap (λ n. suc n) same))

-- what was written, or what stood there
pub from_set : {X : Type 0} (xs : List X) (i j : ℕ) (x y : X) → i < length xs → slice_get (set xs i x) j ≡ Some y
    → ((j ≡ i) × (y ≡ x)) ⊎ ((j ≡ i → ⊥) × (slice_get xs j ≡ Some y))
from_set xs i j x y small is = elim (cases_eq j i) [
  | inl same ↦ inl (same, same_Some (sym is ∙ ap (slice_get (set xs i x)) same ∙ get_set xs i x small))
  | inr other ↦ inr (other, sym (get_set_other xs i j x other) ∙ is)
]

-- AN ELEMENT BEHIND

pub get_push : {X : Type 0} (xs : List X) (x : X) → slice_get (xs ++ x ∷ []) (length xs) ≡ Some x
get_push [] x = refl
get_push (y ∷ xs) x = get_push xs x

pub get_front : {X : Type 0} (xs ys : List X) (k : ℕ) (y : X) → slice_get xs k ≡ Some y → slice_get (xs ++ ys) k ≡ Some y
get_front [] ys k y is = absurd (cc)
get_front (x ∷ xs) ys zero y is = is
get_front (x ∷ xs) ys (suc k) y is = get_front xs ys k y is

pub from_push : {X : Type 0} (xs : List X) (x : X) (k : ℕ) (y : X) → slice_get (xs ++ x ∷ []) k ≡ Some y
    → ((k ≡ length xs) × (y ≡ x)) ⊎ (slice_get xs k ≡ Some y)
from_push [] x zero y is = inl (refl, sym (same_Some is))
from_push [] x (suc k) y is = absurd (cc)
from_push (z ∷ xs) x zero y is = inr is
from_push (z ∷ xs) x (suc k) y is = elim (from_push xs x k y is) [
  | inl (last, same) ↦ inl (ap (λ n. suc n) last, same)
  | inr here ↦ inr here
]

pub from_front : {X : Type 0} (xs ys : List X) (k : ℕ) (y : X) → k < length xs → slice_get (xs ++ ys) k ≡ Some y → slice_get xs k ≡ Some y
from_front [] ys k y below is = absurd (omega arith)
from_front (x ∷ xs) ys zero y below is = is
from_front (x ∷ xs) ys (suc k) y below is = from_front xs ys k y (omega (arith, below)) is

pub from_behind : {X : Type 0} (xs ys : List X) (k : ℕ) (y : X) → length xs ≤ k → slice_get (xs ++ ys) k ≡ Some y → Contains ys y
from_behind [] ys k y above is = in_of ys k y is
from_behind (x ∷ xs) ys zero y above is = absurd (omega (arith, above))
from_behind (x ∷ xs) ys (suc k) y above is = from_behind xs ys k y (omega (arith, above)) is

-- A FRONT

pub get_take : {X : Type 0} (n : ℕ) (xs : List X) (k : ℕ) (y : X) → k < n → slice_get xs k ≡ Some y → slice_get (take n xs) k ≡ Some y
get_take n [] k y below is = absurd (cc)
get_take zero (x ∷ xs) k y below is = absurd (omega arith)
get_take (suc n) (x ∷ xs) zero y below is = is
get_take (suc n) (x ∷ xs) (suc k) y below is = get_take n xs k y (omega arith) is

pub from_take : {X : Type 0} (n : ℕ) (xs : List X) (k : ℕ) (y : X) → slice_get (take n xs) k ≡ Some y → (k < n) × (slice_get xs k ≡ Some y)
from_take zero xs k y is = absurd (cc)
from_take (suc n) [] k y is = absurd (cc)
from_take (suc n) (x ∷ xs) zero y is = (omega arith, is)
from_take (suc n) (x ∷ xs) (suc k) y is = let rest = from_take n xs k y is in (omega (arith, rest.0), rest.1)

-- one more element of a front
pub in_more : {X : Type 0} (n : ℕ) (xs : List X) (x : X) → slice_get xs n ≡ Some x → (y : X) → Contains (take (n + 1) xs) y → Contains (take n xs) y ⊎ (y ≡ x)
in_more n xs x is y h =
    let (k, there) = at_of (take (n + 1) xs) y h in
    let (below, at) = from_take (n + 1) xs k y there in
    elim (cases_lt k n) [
      | inl before ↦ inl (in_of (take n xs) k y (get_take n xs k y before at))
      | inr last ↦ let same : k ≡ n = omega (arith, below, last) in inr (one_at xs n y x (subst (λ j. slice_get xs j ≡ Some y) same at) is)
    ]

pub in_before : {X : Type 0} (n : ℕ) (xs : List X) (y : X) → Contains (take n xs) y → Contains (take (n + 1) xs) y
in_before n xs y h =
    let (k, there) = at_of (take n xs) y h in
    let (below, at) = from_take n xs k y there in
    in_of (take (n + 1) xs) k y (get_take (n + 1) xs k y (omega (arith, below)) at)

pub in_last : {X : Type 0} (n : ℕ) (xs : List X) (x : X) → slice_get xs n ≡ Some x → Contains (take (n + 1) xs) x
in_last n xs x is = in_of (take (n + 1) xs) n x (get_take (n + 1) xs n x (omega arith) is)

-- a front that is the whole
pub in_all : {X : Type 0} (n : ℕ) (xs : List X) (y : X) → length xs ≤ n → Contains xs y → Contains (take n xs) y
in_all n xs y long h =
    let (k, at) = at_of xs y h in
    in_of (take n xs) k y (get_take n xs k y (omega (arith, long, slice_get_within xs k y at)) at)

pub in_whole : {X : Type 0} (n : ℕ) (xs : List X) (y : X) → Contains (take n xs) y → Contains xs y
in_whole n xs y h = let (k, there) = at_of (take n xs) y h in in_of xs k y (from_take n xs k y there).1

pub none_in_front : {X : Type 0} (xs : List X) (y : X) → Contains (take 0 xs) y → ⊥
none_in_front xs y h = omega (arith, h.1)

-- WHAT IS BEHIND A FRONT

pub get_drop : {X : Type 0} (n : ℕ) (xs : List X) (k : ℕ) → slice_get (drop n xs) k ≡ slice_get xs (n + k)
get_drop zero xs k = ap (slice_get xs) (sym (zero-add k))
get_drop (suc n) [] k = refl
get_drop (suc n) (x ∷ xs) k = let same : suc (n + k) ≡ suc n + k = omega arith in get_drop n xs k ∙ ap (slice_get (x ∷ xs)) same

-- ONE VALUE, SO OFTEN

pub get_replicate : {X : Type 0} (n k : ℕ) (x : X) → k < n → slice_get (replicate n x) k ≡ Some x
get_replicate zero k x small = absurd (omega arith)
get_replicate (suc n) zero x small = refl
get_replicate (suc n) (suc k) x small = get_replicate n k x (omega arith)

pub from_replicate : {X : Type 0} (n k : ℕ) (x y : X) → slice_get (replicate n x) k ≡ Some y → y ≡ x
from_replicate zero k x y is = absurd (cc)
from_replicate (suc n) zero x y is = sym (same_Some is)
from_replicate (suc n) (suc k) x y is = from_replicate n k x y is

-- COUNTS

pub count_all : {X : Type 0} (p : X → Bool) (n : ℕ) (x : X) → p x ≡ true → count_by p (replicate n x) ≡ n
count_all p zero x passes = refl
count_all p (suc n) x passes =
    let one : ◌≡◌ {A = ℕ} (cond (p x) 1 0) 1 = ap (λ b. cond b 1 0) passes in
    omega (arith, sum_by-cons (λ y. cond (p y) 1 0) x (replicate n x), count_all p n x passes, one)

-- behind a write

-- one fewer passes
pub one_fewer : {X : Type 0} (p : X → Bool) (xs : List X) (i : ℕ) (x y : X) → slice_get xs i ≡ Some y → p y ≡ true → p x ≡ false
    → count_by p (set xs i x) + 1 ≡ count_by p xs
one_fewer p xs i x y is was now =
    let small = slice_get_within xs i y is in
    let change = sum_by-set (λ z. cond (p z) 1 0) xs i x y small in
    let old : ◌≡◌ {A = ℕ} (cond (p (get_or xs i y)) 1 0) 1 = ap (λ z. cond (p z) 1 0) (get_or_from_slice_get xs i y y is) ∙ ap (λ b. cond b 1 0) was in
    let new : ◌≡◌ {A = ℕ} (cond (p x) 1 0) 0 = ap (λ b. cond b 1 0) now in
    omega (arith, change, old, new)

-- no more pass
pub no_more : {X : Type 0} (p : X → Bool) (xs : List X) (i : ℕ) (x : X) → p x ≡ false → count_by p (set xs i x) ≤ count_by p xs
no_more p [] i x fails = omega arith
no_more p (y ∷ xs) zero x fails =
    let none : ◌≡◌ {A = ℕ} (cond (p x) 1 0) 0 = ap (λ b. cond b 1 0) fails in
    omega (arith, sum_by-cons (λ z. cond (p z) 1 0) x xs, sum_by-cons (λ z. cond (p z) 1 0) y xs, none)
no_more p (y ∷ xs) (suc i) x fails =
    omega (arith, sum_by-cons (λ z. cond (p z) 1 0) y (set xs i x), sum_by-cons (λ z. cond (p z) 1 0) y xs, no_more p xs i x fails)
