-- What the walk for all flags keeps at each place.
use Rattle.std.proofs.Common.{◌≡◌, ℕ, ◌+◌, ◌<◌, ◌≤◌, Bool, true, false, List, [], ◌∷◌, length, take, get_or, refl, sym, ◌∙◌, ap, subst, inl, inr, arith}
use Prim.Native.Nat.{zero, suc}
use Rattle.std.specs.Prelude.{◌&&◌}
use Rattle.std.specs.List.{All, list_all}
use Rattle.std.proofs.Math.Bool.{and_assoc, and-true}
use Rattle.std.proofs.lemmas.Bool.{cases_Bool, true≢false, false≢true}
use Rattle.std.proofs.lemmas.List.{take_all}
use Rattle.std.proofs.lemmas.List.Folds.{list_all_more}
use Rattle.value_bits.specs.declared.all_flags.FourFlags.{FourFlags}
use Rattle.value_set.specs.declared.form.Form.{Form}
use Rattle.value_set.specs.Form.{IsNormal, members}
use Rattle.value_set.specs.ListFacts.{IsIn}
use Rattle.value_bits.specs.AllFlags.{Place, flag_at}
use Rattle.value_bits.specs.AllFlags.Place.{First, Second, Third, Fourth}
use Rattle.value_bits.specs.Flags.{agreed_of, each_has, has_value, known_where}
use Rattle.value_bits.proofs.Combinations.{carries_first, each_has_in, members_below, some_of}

pub walk_start : (p : ℕ → Bool) (xs : List ℕ) (b : Bool) → b ≡ (b && list_all p (take 0 xs))
walk_start p xs b = sym (and-true b)

pub walk_more : (p : ℕ → Bool) (xs : List ℕ) (i d : ℕ) (b before step after : Bool) → i < length xs → before ≡ (b && list_all p (take i xs))
    → step ≡ p (get_or xs i d)
    → after ≡ (before && step) → after ≡ (b && list_all p (take (i + 1) xs))
walk_more p xs i d b before step after short held here is =
    is ∙ ap (λ (c : Bool). c && step) held ∙ ap (λ (c : Bool). (b && list_all p (take i xs)) && c) here
    ∙ and_assoc b (list_all p (take i xs)) (p (get_or xs i d)) ∙ ap (λ (c : Bool). b && c) (sym (list_all_more p xs i d short))

pub walk_end : (p : ℕ → Bool) (xs : List ℕ) (i : ℕ) (b held : Bool) → length xs ≤ i
    → held ≡ (b && list_all p (take i xs)) → held ≡ (b && list_all p xs)
walk_end p xs i b held long is = is ∙ ap (λ (ys : List ℕ). b && list_all p ys) (take_all i xs long)

all_of_taken : (p : ℕ → Bool) (xs : List ℕ) (i : ℕ) → list_all p xs ≡ true → list_all p (take i xs) ≡ true
all_of_taken p [] zero all = refl
all_of_taken p [] (suc i) all = refl
all_of_taken p (x ∷ xs) zero all = refl
all_of_taken p (x ∷ xs) (suc i) all = elim (cases_Bool (p x)) [
  | inl here ↦ rw here (all_of_taken p xs i (rw here at all))
  | inr other ↦ absurd (false≢true (rw other at all))
]

none_left : (p : ℕ → Bool) (xs : List ℕ) (i : ℕ) (b : Bool) → false ≡ (b && list_all p (take i xs)) → false ≡ (b && list_all p xs)
none_left p xs i false is = refl
none_left p xs i true is = elim (cases_Bool (list_all p xs)) [
  | inl all ↦ is ∙ all_of_taken p xs i all ∙ sym all
  | inr other ↦ sym other
]

-- where none is left, none is left behind the others
pub walk_stops : (p : ℕ → Bool) (xs : List ℕ) (i : ℕ) (b held : Bool) → held ≡ (b && list_all p (take i xs))
    → held ≡ false → held ≡ (b && list_all p xs)
walk_stops p xs i b held is none = none ∙ none_left p xs i b (sym none ∙ is)

first_of : (xs : List ℕ) → 1 ≤ length xs → IsIn (get_or xs 0 0) xs
first_of [] some = absurd (omega arith)
first_of (x ∷ xs) some = inl refl

refused : (all flag wanted other : Bool) → (all ≡ true → flag ≡ other) → flag ≡ wanted → (wanted ≡ other → ⊥) → all ≡ false
refused true flag wanted other same is differ = absurd (differ (sym is ∙ same refl))
refused false flag wanted other same is differ = refl

not_clear : true ≡ false → ⊥
not_clear is = true≢false is

not_set : false ≡ true → ⊥
not_set is = false≢true is

by_value : (flag : ℕ → ℕ → ℕ → Bool) (xs ys zs : List ℕ) (wanted all : Bool) → (each_has true flag xs ys zs ≡ true → wanted ≡ true)
    → (each_has false flag xs ys zs ≡ true → wanted ≡ false)
    → all ≡ each_has wanted flag xs ys zs → known_where all wanted ≡ agreed_of flag xs ys zs
by_value flag xs ys zs true all set clear is =
    let none = refused (each_has false flag xs ys zs) true true false clear refl not_clear in
    rw (none, is) refl
by_value flag xs ys zs false all set clear is =
    let none = refused (each_has true flag xs ys zs) false false true set refl not_set in
    rw (none, is) refl

-- what is told of a flag that has the value of the first combination for all
pub told_of : (flag : ℕ → ℕ → ℕ → Bool) (xs ys zs : List ℕ) (wanted all : Bool) → 1 ≤ length xs → 1 ≤ length ys → 1 ≤ length zs
    → wanted ≡ flag (get_or xs 0 0) (get_or ys 0 0) (get_or zs 0 0) → all ≡ each_has wanted flag xs ys zs
    → known_where all wanted ≡ agreed_of flag xs ys zs
told_of flag xs ys zs wanted all i j k is held =
    let here : (value : Bool) → each_has value flag xs ys zs ≡ true → wanted ≡ value =
    λ value each. is ∙ each_has_in value flag xs ys zs (get_or xs 0 0) (get_or ys 0 0) (get_or zs 0 0) each (first_of xs i) (first_of ys j) (first_of zs k) in
    by_value flag xs ys zs wanted all (here true) (here false) held

-- ---- as the code finds it

abbrev pub all_held : FourFlags
all_held = record { first = true; second = true; third = true; fourth = true }

held_each : (place : Place) → flag_at place all_held ≡ true
held_each First = refl
held_each Second = refl
held_each Third = refl
held_each Fourth = refl

-- the carries come first in the walk
pub kept_each : (place : Place) (flag : ℕ → ℕ → ℕ → Bool) (xs ys zs : List ℕ) (wanted kept : Bool)
    → kept ≡ (flag_at place all_held && list_all (λ z. list_all (λ x. list_all (λ y. has_value wanted (flag x y z)) ys) xs) zs)
    → kept ≡ each_has wanted flag xs ys zs
kept_each place flag xs ys zs wanted kept is =
    is ∙ ap (λ (b : Bool). b && list_all (λ z. list_all (λ x. list_all
    (λ y. has_value wanted (flag x y z)) ys) xs) zs) (held_each place) ∙ carries_first wanted flag xs ys zs

pub listed_all : (m : ℕ) (set : Form) (items : List ℕ) → IsNormal m set → items ≡ members m set
    → (1 ≤ length items) × All (λ n. n < m) items
listed_all m set items n is = subst (λ (ys : List ℕ). (1 ≤ length ys) × All (λ n. n < m) ys) (sym is) (some_of m set n, members_below m set n)
