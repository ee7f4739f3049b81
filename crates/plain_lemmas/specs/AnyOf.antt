-- Whether some element of a list passes a test, and whether one is a number.
use Prim.Native.Nat.{zero, suc}
use Rattle.std.proofs.Common.{◌≡◌, ℕ, ◌<◌, ◌==◌, refl, ap, ap₂, sym, ◌∙◌, Bool, true, false, List, [], ◌∷◌, length, get_or, inl, inr, arith}
use Rattle.std.specs.Prelude.{◌↔◌, ◌&&◌, ◌||◌, IsTrue, map}
use Rattle.std.specs.List.{Contains, list_any}
use Rattle.std.proofs.lemmas.Bool.{cases_Bool, or_parts, or_cases}
use Rattle.std.proofs.lemmas.Bool.Decides.{nat_tests}
use Rattle.plain_lemmas.specs.Members.{in_cons, in_first, in_none, in_rest}

-- A LIST OF WHICH NO ELEMENT PASSES, AND ONE OF WHICH SOME ELEMENT DOES

pub none_passes : {X : Type 0} (test : X → Bool) (xs : List X) → list_any test xs ≡ false → (x : X) → Contains xs x → test x ≡ false
none_passes test [] e x h = absurd (in_none x h)
none_passes test (first ∷ xs) e x h =
    let parts = or_parts (test first) (list_any test xs) e in
    elim (in_cons first xs x h) [ inl same ↦ ap test (sym same) ∙ parts.0 | inr rest ↦ none_passes test xs parts.1 x rest ]

pub some_passes : {X : Type 0} (test : X → Bool) (xs : List X) → list_any test xs ≡ true → (x : X) × Contains xs x × (test x ≡ true)
some_passes test [] e = absurd (cc)
some_passes {X = X} test (first ∷ xs) e = elim (or_cases (test first) (list_any test xs) e) [
  | inl here ↦ (first, in_first first xs, here)
  | inr there ↦ let rest = some_passes test xs there in (rest.0, in_rest first xs rest.0 rest.1, rest.2)
]

-- two tests that answer alike at each element
pub any_alike : {X : Type 0} (p q : X → Bool) (xs : List X) → ((x : X) → Contains xs x → p x ≡ q x) → list_any p xs ≡ list_any q xs
any_alike p q [] alike = refl
any_alike p q (first ∷ xs) alike =
    ap₂ (λ a b. a || b) (alike first (in_first first xs)) (any_alike p q xs (λ x h. alike x (in_rest first xs x h)))

pub any_map : {X Y : Type 0} (test : Y → Bool) (f : X → Y) (xs : List X) → list_any test (map f xs) ≡ list_any (λ x. test (f x)) xs
any_map test f [] = refl
any_map test f (first ∷ xs) = ap (λ b. test (f first) || b) (any_map test f xs)

pub any_never : {X : Type 0} (xs : List X) → list_any (λ x. false) xs ≡ false
any_never [] = refl
any_never (first ∷ xs) = any_never xs

-- what is asked in front of each test is asked once
pub any_behind : {X : Type 0} (a : Bool) (test : X → Bool) (xs : List X) → list_any (λ x. a && test x) xs ≡ (a && list_any test xs)
any_behind true test xs = refl
any_behind false test xs = any_never xs

-- A NUMBER OF A LIST

pub any_from_index : (xs : List ℕ) (v k : ℕ) → k < length xs → get_or xs k v ≡ v → list_any (λ x. x == v) xs ≡ true
any_from_index [] v k lt is = absurd (omega arith)
any_from_index (x ∷ xs) v zero lt is = let here : (x == v) ≡ true = grind (arith, nat_tests) in rw here refl
any_from_index (x ∷ xs) v (suc k) lt is =
    let rest : list_any (λ x. x == v) xs ≡ true = any_from_index xs v k (omega arith) is in
    elim (cases_Bool (x == v)) [ inl here ↦ rw here refl | inr other ↦ rw (other, rest) refl ]

pub any_from : (v : ℕ) (xs : List ℕ) → Contains xs v → list_any (λ x. x == v) xs ≡ true
any_from v xs h = any_from_index xs v h.0 h.1 h.2

pub index_from_any : (xs : List ℕ) (v : ℕ) → list_any (λ x. x == v) xs ≡ true → Contains xs v
index_from_any [] v e = absurd cc
index_from_any (x ∷ xs) v e =
    elim (cases_Bool (x == v)) [
      | inl here ↦ (0, omega arith, grind (arith, nat_tests))
      | inr other ↦ let rest = index_from_any xs v (rw other at e) in (suc rest.0, omega (arith, rest.1), rest.2)
    ]

pub any_is : (xs : List ℕ) (v : ℕ) (answer : Bool) → IsTrue answer ↔ Contains xs v → answer ≡ list_any (λ x. x == v) xs
any_is xs v answer (there, back) =
    elim (cases_Bool answer) [
      | inl holds ↦ holds ∙ sym (any_from v xs (there holds))
      | inr none ↦
          elim (cases_Bool (list_any (λ x. x == v) xs)) [
            | inl any ↦ back (index_from_any xs v any) ∙ sym any
            | inr not_any ↦ none ∙ sym not_any
          ]
    ]
