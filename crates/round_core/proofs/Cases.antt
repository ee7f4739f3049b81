-- Cases of tests and of optional places.
use Rattle.std.specs.Prelude.{◌≡◌, ℕ, zero, suc, ◌+◌, ◌<◌, ◌≤◌, ◌⊎◌, Bool, true, false, if◌then◌else◌, Option, None, Some, List, [], ◌∷◌, map, length, drop, slice_get, slice_index_or, Result, Ok, Err, OnOk, IfOk, IsSome, MatchOption, is_some, option_and_then}
use Rattle.std.specs.Option.{option_map}
use Rattle.std.proofs.Common.{refl, inl, inr, ap, sym, ◌∙◌, subst, arith, ltb}
use Rattle.std.proofs.lemmas.Bool.Decides.{nat_tests}
use Rattle.std.proofs.lemmas.List.{drop_more}

pub truth : (b : Bool) → (b ≡ true) ⊎ (b ≡ false)
truth true = inl refl
truth false = inr refl

pub if_true : {X : Type 0} → (b : Bool) (x y : X) → b ≡ true → (if b then x else y) ≡ x
if_true true x y h = refl
if_true false x y h = absurd (cc)

pub if_false : {X : Type 0} → (b : Bool) (x y : X) → b ≡ false → (if b then x else y) ≡ y
if_false true x y h = absurd (cc)
if_false false x y h = refl

pub next_place : (o : Option ℕ) (i : ℕ) → option_map (λ place. place + 1) o ≡ Some i → (j : ℕ) × (o ≡ Some j) × (j + 1 ≡ i)
next_place None i h = absurd (cc)
next_place (Some j) i h = let e : j + 1 ≡ i = cc in (j, refl, e)

pub no_place : (o : Option ℕ) → option_map (λ place. place + 1) o ≡ None → o ≡ None
no_place None h = refl
no_place (Some j) h = absurd (cc)

-- an item at an index
pub get-index : {X : Type 0} → (xs : List X) (i : ℕ) (x : X) → i < length xs → x ≡ slice_index_or xs i x → slice_get xs i ≡ Some x
get-index [] i x h e = absurd (omega arith)
get-index (y ∷ xs) zero x h e = ap (λ t. Some t) (sym e)
get-index (y ∷ xs) (suc i) x h e = let below : i < length xs = omega arith in get-index xs i x below e

-- the items from an index on
pub drop_next : {X : Type 0} → (xs : List X) (i : ℕ) (x : X) → i < length xs → x ≡ slice_index_or xs i x → drop i xs ≡ x ∷ drop (i + 1) xs
drop_next xs i x inside is = drop_more xs i x inside ∙ ap (λ y. y ∷ drop (i + 1) xs) (sym is)

pub get-none : {X : Type 0} → (xs : List X) (i : ℕ) → slice_get xs i ≡ None → length xs ≤ i
get-none [] i h = omega arith
get-none (y ∷ xs) zero h = absurd (cc)
get-none (y ∷ xs) (suc i) h = let e = get-none xs i h in omega arith

pub get-bound : {X : Type 0} → (xs : List X) (i : ℕ) (x : X) → slice_get xs i ≡ Some x → i < length xs
get-bound [] i x h = absurd (cc)
get-bound (y ∷ xs) zero x h = omega arith
get-bound (y ∷ xs) (suc i) x h = let e = get-bound xs i x h in omega arith

pub get-map : {X Y : Type 0} → (f : X → Y) (xs : List X) (i : ℕ) (y : Y) → slice_get (map f xs) i ≡ Some y
    → (x : X) × (slice_get xs i ≡ Some x) × (y ≡ f x)
get-map f [] i y h = absurd (cc)
get-map f (x ∷ xs) zero y h = let e : y ≡ f x = cc in (x, refl, e)
get-map f (x ∷ xs) (suc i) y h = get-map f xs i y h

pub map-get : {X Y : Type 0} → (f : X → Y) (xs : List X) (i : ℕ) (x : X) → slice_get xs i ≡ Some x → slice_get (map f xs) i ≡ Some (f x)
map-get f [] i x h = absurd (cc)
map-get f (y ∷ xs) zero x h = let e : y ≡ x = cc in ap (λ t. Some (f t)) e
map-get f (y ∷ xs) (suc i) x h = map-get f xs i x h

pub length-parts : {X Y : Type 0} → (f : X → Y) (xs : List X) → length (map f xs) ≡ length xs
length-parts f [] = refl
length-parts f (x ∷ xs) = let e = length-parts f xs in omega arith

pub test_true : (i n : ℕ) → true ≡ ltb i n → i < n
test_true i n h = grind (arith, nat_tests)

-- what follows on success
pub on_ok : {T E : Type 0} (P Q : Type 0) → (r : Result T E) → OnOk r (P → Q) → P → OnOk r Q
on_ok P Q (Ok x) f p = f p
on_ok P Q (Err e) f p = tt

pub is_none_of : {X : Type 0} → (o : Option X) → false ≡ is_some o → o ≡ None
is_none_of None h = refl
is_none_of (Some x) h = absurd (cc)

pub then_some : {X Y : Type 0} → (f : X → Option Y) (o : Option X) (y : Y) → option_and_then f o ≡ Some y
    → (x : X) × (o ≡ Some x) × (f x ≡ Some y)
then_some f None y h = absurd (cc)
then_some f (Some x) y h = (x, refl, h)

pub map_some : {X Y : Type 0} → (f : X → Y) (o : Option X) (y : Y) → option_map f o ≡ Some y → (x : X) × (o ≡ Some x) × (f x ≡ y)
map_some f None y h = absurd (cc)
map_some f (Some x) y h = let e : f x ≡ y = cc in (x, refl, e)

pub if_some : {X : Type 0} → (b : Bool) (x y : X) → (if b then Some x else None) ≡ Some y → (b ≡ true) × (x ≡ y)
if_some true x y h = let e : x ≡ y = cc in (refl, e)
if_some false x y h = absurd (cc)

pub unless_some : {X : Type 0} → (b : Bool) (o : Option X) (y : X) → (if b then None else o) ≡ Some y → (b ≡ false) × (o ≡ Some y)
unless_some true o y h = absurd (cc)
unless_some false o y h = (refl, h)

pub on_ok_map : {T E : Type 0} (P Q : Type 0) → (r : Result T E) → (P → Q) → OnOk r P → OnOk r Q
on_ok_map P Q (Ok x) f p = f p
on_ok_map P Q (Err e) f p = tt

pub on_ok_always : {T E : Type 0} (P : Type 0) → (r : Result T E) → P → OnOk r P
on_ok_always P (Ok x) p = p
on_ok_always P (Err e) p = tt

pub on_ok_both : {T E : Type 0} (P Q : Type 0) → (r : Result T E) → OnOk r P → OnOk r Q → OnOk r (P × Q)
on_ok_both P Q (Ok x) p q = (p, q)
on_ok_both P Q (Err e) p q = tt

pub if_ok_map : {T E : Type 0} (P Q : T → Type 0) → (r : Result T E) → ((x : T) → P x → Q x) → IfOk r P → IfOk r Q
if_ok_map P Q (Ok x) f p = f x p
if_ok_map P Q (Err e) f p = tt

-- an optional value that is there
pub is_some_of : {X : Type 0} → (o : Option X) (x : X) → o ≡ Some x → IsSome o
is_some_of None x e = absurd (cc)
is_some_of (Some y) x e = refl

pub match_some : {X : Type 0} (P : Type 0) (Q : X → Type 0) → (o : Option X) (x : X) → o ≡ Some x → MatchOption o P Q → Q x
match_some P Q None x e h = absurd (cc)
match_some P Q (Some y) x e h = let same : y ≡ x = cc in subst Q same h

pub match_none : {X : Type 0} (P : Type 0) (Q : X → Type 0) → (o : Option X) → o ≡ None → MatchOption o P Q → P
match_none P Q None e h = h
match_none P Q (Some y) e h = absurd (cc)
