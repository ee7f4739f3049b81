-- The least number of a list, or the greatest, is one of them, and past each.
use Rattle.std.proofs.Common.{◌≡◌, ℕ, Some, List, [], ◌∷◌, refl, ap, subst, ◌∙◌, inl, inr}
use Rattle.std.specs.Prelude.{◌⊎◌, Contains, IfSome, fold}
use Rattle.report_bytes.specs.Deepest.{extreme_of}
use Rattle.plain_lemmas.specs.Cases.{same_Some}
use Rattle.plain_lemmas.specs.Members.{in_cons, in_first, in_none, in_rest}

-- how numbers are past one another, and which of two stays
pub record Stays (stays : ℕ → ℕ → ℕ) (past : ℕ → ℕ → Type 0) : Type 0 where
  pub first : (a b : ℕ) → past (stays a b) a
  pub second : (a b : ℕ) → past (stays a b) b
  pub either : (a b : ℕ) → (a ≡ stays a b) ⊎ (b ≡ stays a b)
  pub along : (a b c : ℕ) → past a b → past b c → past a c
  pub itself : (a : ℕ) → past a a
  pub one : (a b : ℕ) → past a b → past b a → a ≡ b

module _ (stays : ℕ → ℕ → ℕ) (past : ℕ → ℕ → Type 0) (is : Stays stays past) where
  past_first : (xs : List ℕ) (x : ℕ) → past (fold stays x xs) x
  past_first [] x = is.itself x
  past_first (y ∷ ys) x = is.along (fold stays (stays x y) ys) (stays x y) x (past_first ys (stays x y)) (is.first x y)

  past_each : (xs : List ℕ) (x v : ℕ) → Contains xs v → past (fold stays x xs) v
  past_each [] x v there = absurd (in_none v there)
  past_each (y ∷ ys) x v there = let last = fold stays (stays x y) ys in elim (in_cons y ys v there) [
    | inl same ↦ subst (past last) same (is.along last (stays x y) y (past_first ys (stays x y)) (is.second x y))
    | inr rest ↦ past_each ys (stays x y) v rest
  ]

  one_of : (xs : List ℕ) (x : ℕ) → (x ≡ fold stays x xs) ⊎ Contains xs (fold stays x xs)
  one_of [] x = inl refl
  one_of (y ∷ ys) x = elim (one_of ys (stays x y)) [
    | inl same ↦ elim (is.either x y) [
      | inl first ↦ inl (first ∙ same)
      | inr second ↦ inr (subst (Contains (y ∷ ys)) (second ∙ same) (in_first y ys))
    ]
    | inr rest ↦ inr (in_rest y ys (fold stays (stays x y) ys) rest)
  ]

  -- a number of the list that is past each
  abbrev pub IsExtreme : List ℕ → ℕ → Type 0
  IsExtreme xs v = Contains xs v × ((w : ℕ) → Contains xs w → past v w)

  pub extreme_is : (xs : List ℕ) → IfSome (extreme_of stays xs) (IsExtreme xs)
  extreme_is [] = tt
  extreme_is (x ∷ xs) = let last = fold stays x xs in (
    elim (one_of xs x) [
      | inl first ↦ subst (Contains (x ∷ xs)) first (in_first x xs)
      | inr rest ↦ in_rest x xs last rest
    ],
    λ w there. elim (in_cons x xs w there) [
      | inl same ↦ subst (past last) same (past_first xs x)
      | inr rest ↦ past_each xs x w rest
    ],
  )

  -- there is no other
  pub extreme_one : (xs : List ℕ) (v : ℕ) → IsExtreme xs v → extreme_of stays xs ≡ Some v
  extreme_one [] v last = absurd (in_none v last.0)
  extreme_one (x ∷ xs) v last =
      let found = extreme_is (x ∷ xs) in
      ap Some (is.one (fold stays x xs) v (found.1 v last.0) (last.1 (fold stays x xs) found.0))

  -- each number of the list is behind it
  pub extreme_past : (xs : List ℕ) (w : ℕ) → Contains xs w → (v : ℕ) × (extreme_of stays xs ≡ Some v) × past v w
  extreme_past [] w there = absurd (in_none w there)
  extreme_past (x ∷ xs) w there = (fold stays x xs, refl, (extreme_is (x ∷ xs)).1 w there)

  pub extreme_from : (xs : List ℕ) (v : ℕ) → extreme_of stays xs ≡ Some v → Contains xs v
  extreme_from [] v e = absurd (cc)
  extreme_from (x ∷ xs) v e = subst (Contains (x ∷ xs)) (same_Some e) (extreme_is (x ∷ xs)).0
