-- The members of lists of numbers, one by one: lemmas, also for the proofs of crates above.
use Prim.Native.Nat.{zero, suc}
use Rattle.std.proofs.Common.{◌≡◌, ℕ, Bool, true, List, [], ◌∷◌, ◌++◌, map, refl, sym, ◌∙◌, ap, subst, inl, inr, arith}
use Rattle.std.specs.Prelude.{◌⊎◌}
use Rattle.std.specs.List.{Contains, list_all, flat_map}
use Rattle.std.proofs.lemmas.Bool.{and_from, and_parts}

abbrev pub IsIn : ℕ → List ℕ → Type 0
IsIn v [] = ⊥
IsIn v (x ∷ xs) = (x ≡ v) ⊎ IsIn v xs

pub in_from_Contains : (xs : List ℕ) (v : ℕ) → Contains xs v → IsIn v xs
in_from_Contains [] v h = absurd (omega (arith, h.1))
in_from_Contains (x ∷ xs) v (zero, below, is) = inl is
in_from_Contains (x ∷ xs) v (suc k, below, is) = inr (in_from_Contains xs v (k, omega arith, is))

pub Contains_from_in : (xs : List ℕ) (v : ℕ) → IsIn v xs → Contains xs v
Contains_from_in [] v h = absurd h
Contains_from_in (x ∷ xs) v (inl e) = (0, omega arith, e)
Contains_from_in (x ∷ xs) v (inr h) = let rest = Contains_from_in xs v h in (suc rest.0, omega (arith, rest.1), rest.2)

-- TWO LISTS, ONE BEHIND THE OTHER

pub in_front : (v : ℕ) (xs ys : List ℕ) → IsIn v xs → IsIn v (xs ++ ys)
in_front v [] ys h = absurd h
in_front v (x ∷ xs) ys (inl e) = inl e
in_front v (x ∷ xs) ys (inr h) = inr (in_front v xs ys h)

pub in_behind : (v : ℕ) (xs ys : List ℕ) → IsIn v ys → IsIn v (xs ++ ys)
in_behind v [] ys h = h
in_behind v (x ∷ xs) ys h = inr (in_behind v xs ys h)

pub in_either : (v : ℕ) (xs ys : List ℕ) → IsIn v (xs ++ ys) → IsIn v xs ⊎ IsIn v ys
in_either v [] ys h = inr h
in_either v (x ∷ xs) ys (inl e) = inl (inl e)
in_either v (x ∷ xs) ys (inr h) = elim (in_either v xs ys h) [ inl a ↦ inl (inr a) | inr b ↦ inr b ]

-- WHAT A FUNCTION MAKES OF EACH

pub in_map : (f : ℕ → ℕ) (v : ℕ) (xs : List ℕ) → IsIn v xs → IsIn (f v) (map f xs)
in_map f v [] h = absurd h
in_map f v (x ∷ xs) (inl e) = inl (ap f e)
in_map f v (x ∷ xs) (inr h) = inr (in_map f v xs h)

pub in_mapped : (f : ℕ → ℕ) (v : ℕ) (xs : List ℕ) → IsIn v (map f xs) → (x : ℕ) × IsIn x xs × (f x ≡ v)
in_mapped f v [] h = absurd h
in_mapped f v (x ∷ xs) (inl e) = (x, inl refl, e)
in_mapped f v (x ∷ xs) (inr h) = let rest = in_mapped f v xs h in (rest.0, inr rest.1, rest.2)

pub in_flat_map : (f : ℕ → List ℕ) (v w : ℕ) (xs : List ℕ) → IsIn v xs → IsIn w (f v) → IsIn w (flat_map f xs)
in_flat_map f v w [] h k = absurd h
in_flat_map f v w (x ∷ xs) (inl e) k = in_front w (f x) (flat_map f xs) (subst (λ (n : ℕ). IsIn w (f n)) (sym e) k)
in_flat_map f v w (x ∷ xs) (inr h) k = in_behind w (f x) (flat_map f xs) (in_flat_map f v w xs h k)

pub in_flat : (f : ℕ → List ℕ) (v : ℕ) (xs : List ℕ) → IsIn v (flat_map f xs) → (x : ℕ) × IsIn x xs × IsIn v (f x)
in_flat f v [] h = absurd h
in_flat f v (y ∷ ys) h = elim (in_either v (f y) (flat_map f ys) h) [
  | inl here ↦ (y, inl refl, here)
  | inr later ↦ let rest = in_flat f v ys later in (rest.0, inr rest.1, rest.2)
]

-- A TEST THAT ALL PASS

pub list_all_in : (p : ℕ → Bool) (v : ℕ) (xs : List ℕ) → list_all p xs ≡ true → IsIn v xs → p v ≡ true
list_all_in p v [] h i = absurd i
list_all_in p v (x ∷ xs) h (inl e) = ap p (sym e) ∙ (and_parts (p x) (list_all p xs) h).0
list_all_in p v (x ∷ xs) h (inr i) = list_all_in p v xs (and_parts (p x) (list_all p xs) h).1 i

pub all_in : (p : ℕ → Bool) (xs : List ℕ) → ((v : ℕ) → IsIn v xs → p v ≡ true) → list_all p xs ≡ true
all_in p [] each = refl
all_in p (x ∷ xs) each = and_from (p x) (list_all p xs) (each x (inl refl)) (all_in p xs (λ v i. each v (inr i)))
